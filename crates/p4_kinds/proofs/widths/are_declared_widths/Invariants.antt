use Rattle.std.proofs.Common.{◌≡◌, drop, map}
use Rattle.cocoon_num.specs.Lists.{each}
use Rattle.cocoon_num.specs.Sorts.{is_declared_width}
use Rattle.p4_ir.specs.P4Tree.{field_widths}
use Rattle.p4_ir.specs.Program.{field_of}
use Rattle.p4_kinds.proofs.widths.are_declared_widths.Given as goal

abbrev pub invariant-loop-field : goal.invariant-loop-field
invariant-loop-field l = each is_declared_width (field_widths (map field_of (drop l.field-index l.fields))) ≡ each is_declared_width (field_widths (map field_of l.fields))
