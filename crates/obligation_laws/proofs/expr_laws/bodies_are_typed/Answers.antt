use Rattle.obligation_laws.proofs.ExprsTogether.{body_is_typed}
use Rattle.obligation_laws.proofs.expr_laws.bodies_are_typed.Goals as goal

pub returns : goal.returns
returns c = body_is_typed
