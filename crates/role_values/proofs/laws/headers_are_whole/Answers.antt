use Rattle.role_values.proofs.ParamWidths.{headers_whole}
use Rattle.role_values.proofs.laws.headers_are_whole.Goals as goal

pub returns : goal.returns
returns c = headers_whole
