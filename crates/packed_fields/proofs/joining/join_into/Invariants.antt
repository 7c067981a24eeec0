use Rattle.std.proofs.Common.{◌≡◌, ◌<◌, length, take}
use Rattle.cocoon_num.specs.Packets.{packed, total}
use Rattle.packed_fields.specs.Bits.{bits_made, IsWriting, number_made}
use Rattle.packed_fields.proofs.joining.join_into.Given as goal

abbrev pub invariant-loop-index : goal.invariant-loop-index
invariant-loop-index l = record {
  writing : IsWriting l.left l.bytes;
  short : l.left.count < 8;
  many : length l.bytes ≡ length l.fn.bytes;
  bits : bits_made l.left ≡ total (take l.index l.widths);
  number : number_made l.left l.bytes ≡ packed (take l.index l.widths) (take l.index l.fields);
}
