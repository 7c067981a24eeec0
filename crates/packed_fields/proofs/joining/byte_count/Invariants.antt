use Rattle.std.proofs.Common.{◌≡◌, take}
use Rattle.cocoon_num.specs.Packets.{total}
use Rattle.packed_fields.proofs.joining.byte_count.Given as goal

abbrev pub invariant-loop-width : goal.invariant-loop-width
invariant-loop-width l = l.bits ≡ total (take l.width-index l.widths)
