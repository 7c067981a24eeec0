use Rattle.p4_ir.specs.Program.{expr_of}
use Rattle.net_wiring.proofs.OtherTrees.{no-group}
use Rattle.net_wiring.proofs.stmts.same_group.Goals as goal

pub returns-in_default : goal.returns-in_default
returns-in_default c = no-group (expr_of c.args.number.now) c.args.other.now c.in_default.not-Group
