use Rattle.role_values.proofs.ParamWidths.{headers_declared}
use Rattle.role_values.proofs.laws.fields_are_declared.Goals as goal

pub returns : goal.returns
returns c = headers_declared
