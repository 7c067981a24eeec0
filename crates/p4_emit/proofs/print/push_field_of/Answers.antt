use Rattle.std.proofs.Common.{rules}
use Rattle.p4_ir.specs.Program.{field_of}
use Rattle.p4_emit.proofs.Printing.{followed, found_none, found_some}
use Rattle.p4_emit.proofs.print.push_field_of.Goals as goal

pub returns-in-Some : goal.returns-in-Some
returns-in-Some c =
    found_some _ field_of c.args.header.now.fields c.args.f c.in-Some.field.now c.args.out.now _ (search rules) (search rules)
    (followed c.push.ensures (followed c.push_name.ensures (followed c.push-in-Some.ensures c.push_name-in-Some.ensures)))

pub returns-in_default : goal.returns-in_default
returns-in_default c = found_none _ field_of c.args.header.now.fields c.args.f c.args.out.now (search rules)
