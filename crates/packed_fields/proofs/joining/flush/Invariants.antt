use Rattle.std.proofs.Common.{◌≡◌, ◌*◌, ◌<◌, ◌≤◌, length}
use Rattle.packed_fields.specs.Bits.{bits_made, IsWriting, number_made}
use Rattle.packed_fields.proofs.joining.flush.Given as goal

abbrev pub invariant-loop-left : goal.invariant-loop-left
invariant-loop-left l = record {
  writing : IsWriting l.left l.bytes;
  few : l.left.count < 72;
  room : bits_made l.left ≤ 8 * length l.bytes;
  bits : bits_made l.left ≡ bits_made l.fn.start;
  number : number_made l.left l.bytes ≡ number_made l.fn.start l.fn.bytes;
}

abbrev pub decreases-loop-left : goal.decreases-loop-left
decreases-loop-left l = l.left.count
