use Rattle.p4_ir.specs.Program.{expr_of}
use Rattle.net_wiring.proofs.OtherTrees.{no-set-field}
use Rattle.net_wiring.proofs.stmts.same_set_field.Goals as goal

pub returns-in_default : goal.returns-in_default
returns-in_default c = no-set-field c.args.header c.args.field (expr_of c.args.value.now) c.args.other.now c.in_default.not-SetField
