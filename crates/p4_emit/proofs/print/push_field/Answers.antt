use Rattle.std.proofs.Common.{rules}
use Rattle.p4_ir.specs.Program.{header_of}
use Rattle.p4_emit.proofs.Printing.{found_none}
use Rattle.p4_emit.proofs.print.push_field.Goals as goal

pub returns-in_default : goal.returns-in_default
returns-in_default c = found_none _ header_of c.args.program.now.headers c.args.h c.args.out.now (search rules)
