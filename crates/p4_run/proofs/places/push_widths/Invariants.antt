use Rattle.std.proofs.Common.{◌≡◌, ◌++◌, map, take}
use Rattle.p4_ir.specs.P4Tree.{field_widths}
use Rattle.p4_ir.specs.Program.{field_of}
use Rattle.p4_run.proofs.places.push_widths.Given as goal

abbrev pub invariant-loop-field : goal.invariant-loop-field
invariant-loop-field l = l.widths.items ≡ l.fn.widths.items ++ field_widths (map field_of (take l.field-index l.fields))
