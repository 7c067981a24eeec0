use Rattle.std.proofs.Common.{◌≡◌, drop}
use Rattle.cocoon_num.specs.Lists.{each}
use Rattle.std.specs.Prelude.{nat_lt}
use Rattle.p4_kinds.proofs.numbers.are_below.Given as goal

abbrev pub invariant-loop-key : goal.invariant-loop-key
invariant-loop-key l = each (λ i. nat_lt i l.count) (drop l.key-index l.keys) ≡ each (λ i. nat_lt i l.count) (l.keys)
