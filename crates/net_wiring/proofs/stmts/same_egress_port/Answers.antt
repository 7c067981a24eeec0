use Rattle.p4_ir.specs.Program.{expr_of}
use Rattle.net_wiring.proofs.OtherTrees.{no-egress}
use Rattle.net_wiring.proofs.stmts.same_egress_port.Goals as goal

pub returns-in_default : goal.returns-in_default
returns-in_default c = no-egress (expr_of c.args.port.now) c.args.other.now c.in_default.not-EgressPort
