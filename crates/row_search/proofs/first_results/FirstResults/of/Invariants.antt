use Rattle.std.proofs.Common.{◌≡◌, ◌*◌, ◌≤◌, ℕ, List, drop, length}
use Rattle.row_search.specs.FirstResults.{AreCounted, result_by}
use Rattle.row_search.specs.Pairs.{found, pairs_of}
use Rattle.row_search.proofs.first_results.FirstResults.of.Given as goal

abbrev pub invariant-loop-row : goal.invariant-loop-row
invariant-loop-row l = record {
  within : l.row ≤ length l.results;
  at : l.at ≡ l.row * l.count;
  found : (xs : List ℕ) → result_by l.first xs ≡ found (pairs_of l.count (drop l.at l.values) (drop l.row l.results)) xs;
  counted : AreCounted l.count l.first;
}

abbrev pub decreases-loop-row : goal.decreases-loop-row
decreases-loop-row l = l.row
