use Rattle.std.proofs.Common.{◌≡◌, ◌+◌, ◌%◌, ◌<◌, map, drop}
use Rattle.cocoon_num.specs.Packets.{total}
use Rattle.p4_ir.specs.P4Tree.{field_widths}
use Rattle.p4_texts.specs.Meant.{field_meant}
use Rattle.p4_texts.specs.TreeOf.{field_of}
use Rattle.p4_resolve.proofs.headers.spare_bits.Given as goal

abbrev pub invariant-loop-field : goal.invariant-loop-field
invariant-loop-field l = record {
  small : l.bits < 8;
  rest : (l.bits + total (field_widths (map field_meant (map field_of (drop l.field-index l.fields))))) % 8 ≡ total (field_widths (map field_meant (map field_of l.fields))) % 8;
}
