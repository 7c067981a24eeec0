use Rattle.role_values.proofs.ParamWidths.{roles_declared}
use Rattle.role_values.proofs.laws.role_params_are_declared.Goals as goal

pub returns : goal.returns
returns c = roles_declared
