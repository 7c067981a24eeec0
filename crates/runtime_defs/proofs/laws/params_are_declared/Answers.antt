use Rattle.runtime_defs.proofs.ParamWidths.{params_declared}
use Rattle.runtime_defs.proofs.laws.params_are_declared.Goals as goal

pub returns : goal.returns
returns c = params_declared
