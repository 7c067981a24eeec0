use Rattle.std.proofs.Common.{◌≡◌, ◌≤◌, drop, length}
use Rattle.cocoon_num.specs.Packets.{enter}
use Rattle.reference_programs.proofs.Entering.{behind}
use Rattle.reference_programs.proofs.packet.enter.Given as goal

-- the headers so far, and what enters from the bytes that are left, are what enters from all bytes
abbrev pub invariant-loop-widths : goal.invariant-loop-widths
invariant-loop-widths l = record {
  so_far : behind l.packet.items (enter (drop l.widths-index l.layout) l.rest) ≡ enter l.layout l.bytes;
  within : length l.rest ≤ length l.bytes;
}
