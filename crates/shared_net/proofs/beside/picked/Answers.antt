use Rattle.p4_ir.specs.Program.{expr_of}
use Rattle.shared_net.proofs.Lone.{lone_choice}
use Rattle.shared_net.proofs.beside.picked.Goals as goal

pub returns-in_default : goal.returns-in_default
returns-in_default c = lone_choice (expr_of c.args.condition.now) (expr_of c.args.first.now) (expr_of c.args.second.now) c.args.other.now c.in_default.not-Pick
