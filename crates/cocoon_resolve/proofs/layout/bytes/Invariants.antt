use Rattle.std.proofs.Common.{◌≡◌, ◌≤◌, ◌*◌, take}
use Rattle.cocoon_num.specs.Packets.{total}
use Rattle.cocoon_resolve.proofs.layout.bytes.Given as goal

abbrev pub invariant-loop-width : goal.invariant-loop-width
invariant-loop-width l = record {
  sum : l.bits ≡ total (take l.width-index l.widths);
  bound : l.bits ≤ 255 * l.width-index;
}
