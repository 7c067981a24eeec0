use Rattle.net_wiring.proofs.OtherTrees.{no-meta}
use Rattle.net_wiring.proofs.exprs.same_meta.Goals as goal

pub returns-in_default : goal.returns-in_default
returns-in_default c = no-meta c.args.index c.args.other.now c.in_default.not-Meta
