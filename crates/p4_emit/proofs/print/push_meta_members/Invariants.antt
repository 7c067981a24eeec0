use Rattle.std.proofs.Common.{drop, map}
use Rattle.p4_ir.specs.Program.{field_of}
use Rattle.p4_emit.specs.Printed.{each_text, meta_member_text}
use Rattle.p4_emit.proofs.Printing.{Leads}
use Rattle.p4_emit.proofs.print.push_meta_members.Given as goal

abbrev pub invariant-loop-field : goal.invariant-loop-field
invariant-loop-field l = Leads l.fn.out l.out (each_text meta_member_text (map field_of (drop l.field-index l.fields))) (each_text meta_member_text (map field_of l.fields))
