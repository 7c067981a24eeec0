use Rattle.std.proofs.Common.{◌≡◌, ◌++◌, length, drop}
use Rattle.cocoon_num.specs.Packets.{cut, packed, total}
use Rattle.cocoon_num.specs.PacketForms.{FieldsFit}
use Rattle.reference_programs.specs.Widths.{ones}
use Rattle.reference_programs.proofs.bits.fields_of_bits.Given as goal

-- the fields so far, and those of the bits that are left, are all fields
abbrev pub invariant-loop-width : goal.invariant-loop-width
invariant-loop-width l = record {
  so_far : l.fields.items ++ cut (drop l.width-index l.widths) (packed (ones (length l.rest)) l.rest) ≡ cut l.widths (packed (ones (length l.bits)) l.bits);
  long : total (drop l.width-index l.widths) ≡ length l.rest;
  fit : FieldsFit (ones (length l.rest)) l.rest;
}
