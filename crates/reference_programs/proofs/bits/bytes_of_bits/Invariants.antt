use Rattle.std.proofs.Common.{◌≡◌, ◌-◌, ◌*◌, ◌++◌, length}
use Rattle.cocoon_num.specs.Packets.{cut, eights, packed}
use Rattle.cocoon_num.specs.PacketForms.{FieldsFit}
use Rattle.reference_programs.specs.Widths.{ones}
use Rattle.reference_programs.proofs.bits.bytes_of_bits.Given as goal

-- the bytes so far, and those of the bits that are left, are all bytes
abbrev pub invariant-loop-done : goal.invariant-loop-done
invariant-loop-done l = record {
  so_far : l.bytes.items ++ cut (eights (l.count - l._done)) (packed (ones (length l.rest)) l.rest) ≡ cut (eights l.count) (packed (ones (length l.bits)) l.bits);
  long : 8 * (l.count - l._done) ≡ length l.rest;
  fit : FieldsFit (ones (length l.rest)) l.rest;
}
