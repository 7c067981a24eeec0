use Rattle.std.proofs.Common.{rules}
use Rattle.p4_ir.specs.Program.{field_of}
use Rattle.p4_emit.proofs.Printing.{followed, found_none, found_some}
use Rattle.p4_emit.proofs.print.push_meta.Goals as goal

pub returns-in-Some : goal.returns-in-Some
returns-in-Some c =
    found_some _ field_of c.args.program.now.meta c.args.i c.in-Some.field.now c.args.out.now _ (search rules) (search rules)
    (followed c.push.ensures c.push_name.ensures)

pub returns-in_default : goal.returns-in_default
returns-in_default c = found_none _ field_of c.args.program.now.meta c.args.i c.args.out.now (search rules)
