use Rattle.obligation_laws.proofs.ExprsTogether.{widths_are}
use Rattle.obligation_laws.proofs.expr_laws.terms_have_widths.Goals as goal

pub returns : goal.returns
returns c = widths_are
