use Rattle.std.proofs.Common.{◌≡◌, map, take}
use Rattle.cocoon_num.proofs.copies.copy_list.Given as goal

abbrev pub invariant-loop-item : goal.invariant-loop-item
invariant-loop-item g l = map g.T.Copied.meaning l.copies.items ≡ map g.T.Copied.meaning (take l.item-index l.items)
