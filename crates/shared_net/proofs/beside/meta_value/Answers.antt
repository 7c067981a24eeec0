use Rattle.p4_ir.specs.Program.{expr_of}
use Rattle.shared_net.proofs.Lone.{lone_meta}
use Rattle.shared_net.proofs.beside.meta_value.Goals as goal

pub returns-in_default : goal.returns-in_default
returns-in_default c = lone_meta (expr_of c.args.own.now) c.args.other.now c.in_default.not-SetMeta
