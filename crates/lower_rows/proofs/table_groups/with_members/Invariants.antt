use Rattle.std.proofs.Common.{◌≡◌, ◌≤◌, ◌-◌, ◌++◌, drop, length, map}
use Rattle.lower_rows.specs.Grouping.{grouped_of, lists_of}
use Rattle.lower_rows.specs.Sets.{grouped_with}
use Rattle.lower_rows.proofs.table_groups.with_members.Given as goal

abbrev pub invariant-loop-at : goal.invariant-loop-at
invariant-loop-at l = record {
  within : l.at ≤ length l.lists;
  rest : map grouped_of l.groups.items ++ grouped_with (lists_of (drop l.at l.lists)) (lists_of (drop l.at l.members)) ≡ grouped_with (lists_of l.lists) (lists_of l.members);
}

abbrev pub decreases-loop-at : goal.decreases-loop-at
decreases-loop-at l = length l.lists - l.at
