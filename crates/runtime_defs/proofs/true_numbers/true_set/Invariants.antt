use Rattle.std.proofs.Common.{◌≡◌, ◌≤◌, ℕ, drop, length}
use Rattle.std.specs.BTreeSet.{contains, IsOrdered}
use Rattle.std.specs.Ordering.{nat_cmp}
use Rattle.runtime_defs.specs.TrueRows.{first_true}
use Rattle.runtime_defs.proofs.true_numbers.true_set.Given as goal

abbrev pub invariant-loop-at : goal.invariant-loop-at
invariant-loop-at l = record {
  within : l.at ≤ length l.rows;
  ordered : IsOrdered nat_cmp l.numbers;
  noted : (n : ℕ) → contains nat_cmp l.numbers n ≡ first_true (drop l.at l.rows) n;
}

abbrev pub decreases-loop-at : goal.decreases-loop-at
decreases-loop-at l = l.at
