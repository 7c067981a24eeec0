use Rattle.std.proofs.Common.{◌≡◌, ◌<◌, ◌+◌, ◌*◌, ◌^◌, length, drop}
use Rattle.cocoon_num.specs.Packets.{packed}
use Rattle.cocoon_num.specs.PacketForms.{FieldsFit}
use Rattle.reference_programs.specs.Widths.{ones}
use Rattle.reference_programs.proofs.bits.number.Given as goal

-- the number so far stands before the bits that are left
abbrev pub invariant-loop-bit : goal.invariant-loop-bit
invariant-loop-bit l = record {
  so_far : l.number * 2 ^ length (drop l.bit-index l.bits) + packed (ones (length (drop l.bit-index l.bits))) (drop l.bit-index l.bits) ≡ packed (ones (length l.bits)) l.bits;
  below : l.number < 2 ^ l.bit-index;
  fit : FieldsFit (ones (length (drop l.bit-index l.bits))) (drop l.bit-index l.bits);
}
