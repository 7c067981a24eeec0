use Rattle.std.proofs.Common.{◌≡◌, ◌++◌, drop, length, map}
use Rattle.packed_fields.specs.AtOnce.{widths_in}
use Rattle.p4_ir.specs.Program.{header_of}
use Rattle.p4_run.specs.Places.{layout_of, starts_from}
use Rattle.p4_run.proofs.places.field_widths.Given as goal

abbrev pub invariant-loop-header : goal.invariant-loop-header
invariant-loop-header l = record {
  widths : l.widths.items ++ widths_in (layout_of (map header_of (drop l.header-index l.headers))) ≡ widths_in (layout_of (map header_of l.headers));
  starts : l.starts.items ++ starts_from (length l.widths.items) (layout_of (map header_of (drop l.header-index l.headers))) ≡ starts_from 0 (layout_of (map header_of l.headers));
}
