use Rattle.std.proofs.Common.{◌≡◌, ◌++◌, drop}
use Rattle.cocoon_num.specs.Packets.{leave}
use Rattle.cocoon_num.specs.PacketForms.{PacketFits}
use Rattle.reference_programs.proofs.packet.leave.Given as goal

-- the bytes so far, and those of the headers that are left, are all bytes
abbrev pub invariant-loop-index : goal.invariant-loop-index
invariant-loop-index l = record {
  so_far : l.bytes.items ++ leave (drop l.index l.layout) (drop l.index l.headers) l.payload ≡ leave l.layout l.headers l.payload;
  fits : PacketFits (drop l.index l.layout) (drop l.index l.headers);
}
