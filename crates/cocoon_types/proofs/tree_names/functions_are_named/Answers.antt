use Rattle.cocoon_types.proofs.Functions.{functions_named}
use Rattle.cocoon_types.proofs.tree_names.functions_are_named.Goals as goal

pub returns : goal.returns
returns c = functions_named
