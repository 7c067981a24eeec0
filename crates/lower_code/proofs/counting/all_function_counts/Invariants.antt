use Rattle.std.proofs.Common.{◌≡◌, ◌≤◌, ◌-◌, length}
use Rattle.lower_code.specs.Scopes.{design_in, KnowsCounts}
use Rattle.lower_code.proofs.counting.all_function_counts.Given as goal

abbrev pub invariant-loop-number : goal.invariant-loop-number
invariant-loop-number l = record {
  within : l.number ≤ l.scope.before;
  count : length l.known.items ≡ l.number;
  known : KnowsCounts l.part (design_in l.scope) l.known.items;
}

abbrev pub decreases-loop-number : goal.decreases-loop-number
decreases-loop-number l = l.scope.before - l.number
