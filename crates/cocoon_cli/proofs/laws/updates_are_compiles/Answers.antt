use Rattle.cocoon_cli.proofs.Headlines.{as_compiled}
use Rattle.cocoon_cli.proofs.laws.updates_are_compiles.Goals as goal

pub returns : goal.returns
returns c = as_compiled
