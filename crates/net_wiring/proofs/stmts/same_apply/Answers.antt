use Rattle.net_wiring.proofs.OtherTrees.{no-apply}
use Rattle.net_wiring.proofs.stmts.same_apply.Goals as goal

pub returns-in_default : goal.returns-in_default
returns-in_default c = no-apply c.args.number c.args.other.now c.in_default.not-Apply
