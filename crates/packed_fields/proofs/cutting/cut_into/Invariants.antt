use Rattle.std.proofs.Common.{◌≡◌, ◌+◌, ◌*◌, ◌^◌, ◌<◌, length, take, drop}
use Rattle.cocoon_num.specs.PacketForms.{FieldsFit}
use Rattle.cocoon_num.specs.Packets.{packed, total}
use Rattle.packed_fields.specs.Bits.{bits_left, bytes_number, IsReading, number_left}
use Rattle.packed_fields.proofs.cutting.cut_into.Given as goal

abbrev pub invariant-loop-index : goal.invariant-loop-index
invariant-loop-index l = record {
  reading : IsReading l.reader;
  short : l.reader.count < 8;
  many : length l.fields ≡ length l.widths;
  bits : bits_left l.reader ≡ total (drop l.index l.widths);
  number : packed (take l.index l.widths) (take l.index l.fields) * 2 ^ bits_left l.reader + number_left l.reader ≡ bytes_number l.bytes;
  fits : FieldsFit (take l.index l.widths) (take l.index l.fields);
}
