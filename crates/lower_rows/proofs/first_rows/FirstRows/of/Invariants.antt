use Rattle.std.proofs.Common.{◌≡◌, ◌≤◌, ℕ, List, drop, length}
use Rattle.lower_rows.specs.FirstRows.{said_by, said_first}
use Rattle.lower_rows.proofs.first_rows.FirstRows.of.Given as goal

abbrev pub invariant-loop-at : goal.invariant-loop-at
invariant-loop-at l = record {
  within : l.at ≤ length l.rows;
  said : (x : List ℕ) → said_by l.first x ≡ said_first (drop l.at l.rows) x;
}

abbrev pub decreases-loop-at : goal.decreases-loop-at
decreases-loop-at l = l.at
