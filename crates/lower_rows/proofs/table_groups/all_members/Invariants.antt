use Rattle.std.proofs.Common.{◌≡◌, ◌++◌}
use Rattle.lower_rows.specs.Grouping.{keys_of, lists_of}
use Rattle.lower_rows.proofs.table_groups.all_members.Given as goal

abbrev pub invariant-loop-set : goal.invariant-loop-set
invariant-loop-set l = keys_of l.fn.sets.items ≡ lists_of l.members.items ++ keys_of l.set-iterator.rest.items
