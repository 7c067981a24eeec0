use Rattle.std.proofs.Common.{◌≡◌, ◌≤◌, ℕ, List, true, drop, length, map}
use Rattle.cocoon_num.specs.Lists.{all_distinct}
use Rattle.lower_rows.specs.Grouping.{keys_of, said_true}
use Rattle.lower_rows.specs.Numbered.{Holds}
use Rattle.lower_rows.specs.Sets.{members_by}
use Rattle.lower_rows.proofs.table_groups.fill_sets.Given as goal

abbrev pub invariant-loop-at : goal.invariant-loop-at
invariant-loop-at l = record {
  within : l.at ≤ length l.rows;
  filled : (ns : List (List ℕ)) → Holds l.args ns → all_distinct ns ≡ true → keys_of l.sets.items ≡ map (members_by (said_true l.first) (drop l.at l.rows)) ns;
}

abbrev pub decreases-loop-at : goal.decreases-loop-at
decreases-loop-at l = l.at
