use Rattle.net_wiring.proofs.OtherTrees.{no-verdict}
use Rattle.net_wiring.proofs.stmts.same_verdict.Goals as goal

pub returns-in_default : goal.returns-in_default
returns-in_default c = no-verdict c.args.number c.args.other.now c.in_default.not-Verdict
