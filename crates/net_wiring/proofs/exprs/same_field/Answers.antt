use Rattle.net_wiring.proofs.OtherTrees.{no-field}
use Rattle.net_wiring.proofs.exprs.same_field.Goals as goal

pub returns-in_default : goal.returns-in_default
returns-in_default c = no-field c.args.header c.args.field c.args.other.now c.in_default.not-Field
