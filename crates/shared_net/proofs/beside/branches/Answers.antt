use Rattle.std.proofs.Common.{map}
use Rattle.p4_ir.specs.Program.{block_of, expr_of, stmt_of}
use Rattle.shared_net.proofs.Lone.{lone_if_else}
use Rattle.shared_net.proofs.beside.branches.Goals as goal

pub returns-in_default : goal.returns-in_default
returns-in_default c = lone_if_else (expr_of c.args.condition.now) (block_of (map stmt_of c.args.first.now)) (block_of (map stmt_of c.args.second.now)) c.args.other.now c.in_default.not-IfElse
