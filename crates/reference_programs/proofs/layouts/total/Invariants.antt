use Rattle.std.proofs.Common.{◌≡◌, ◌≤◌, ◌+◌, ◌*◌, drop}
use Rattle.cocoon_num.specs.Packets.{total}
use Rattle.reference_programs.proofs.layouts.total.Given as goal

abbrev pub invariant-loop-width : goal.invariant-loop-width
invariant-loop-width l = record {
  so_far : l.bits + total (drop l.width-index l.widths) ≡ total l.widths;
  small : l.bits ≤ 255 * l.width-index;
}
