use Rattle.net_wiring.proofs.OtherTrees.{no-truth}
use Rattle.net_wiring.proofs.exprs.same_constant.Goals as goal

pub returns-in_default : goal.returns-in_default
returns-in_default c = no-truth c.args.truth c.args.other.now c.in_default.not-Truth
