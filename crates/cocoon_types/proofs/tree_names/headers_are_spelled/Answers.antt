use Rattle.cocoon_types.proofs.Headers.{design_spelled}
use Rattle.cocoon_types.proofs.tree_names.headers_are_spelled.Goals as goal

pub returns : goal.returns
returns c = design_spelled
