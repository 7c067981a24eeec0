use Rattle.std.proofs.Common.{◌≡◌, drop, map}
use Rattle.cocoon_num.specs.Lists.{each}
use Rattle.p4_ir.specs.NetOf.{key_row_of}
use Rattle.row_search.specs.Held.{share_masks}
use Rattle.row_search.proofs.flat.have_masks.Given as goal

abbrev pub invariant-loop-row : goal.invariant-loop-row
invariant-loop-row l = each (share_masks l.masks) (map key_row_of (drop l.row-index l.rows)) ≡ each (share_masks l.masks) (map key_row_of l.rows)
