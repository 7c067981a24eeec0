use Rattle.p4_ir.specs.Program.{expr_of}
use Rattle.shared_net.proofs.Lone.{lone_binary}
use Rattle.shared_net.proofs.beside.operands.Goals as goal

pub returns-in_default : goal.returns-in_default
returns-in_default c = lone_binary (expr_of c.args.left.now) (expr_of c.args.right.now) c.args.other.now c.in_default.not-Binary
