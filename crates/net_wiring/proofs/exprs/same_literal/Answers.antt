use Rattle.net_wiring.proofs.OtherTrees.{no-lit}
use Rattle.net_wiring.proofs.exprs.same_literal.Goals as goal

pub returns-in_default : goal.returns-in_default
returns-in_default c = no-lit c.args.bits.width c.args.bits.value c.args.other.now c.in_default.not-Lit
