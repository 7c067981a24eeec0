use Rattle.std.proofs.Common.{◌≡◌, length}
use Rattle.row_search.proofs.dividing.part_numbers.Given as goal

abbrev pub invariant-loop-row : goal.invariant-loop-row
invariant-loop-row l = length l.numbers.items ≡ l.row-index
