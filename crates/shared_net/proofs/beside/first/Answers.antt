use Rattle.std.proofs.Common.{rules}
use Rattle.p4_ir.specs.Program.{stmt_of}
use Rattle.shared_net.proofs.Lone.{lone_first}
use Rattle.shared_net.proofs.beside.first.Goals as goal

pub returns-in-None : goal.returns-in-None
returns-in-None c = lone_first (stmt_of c.args.own.now) c.args.others.now (search rules)
