use Rattle.std.proofs.Common.{◌≡◌, ◌++◌, map}
use Rattle.lower_rows.specs.AllGroups.{fork_group_of, of_function}
use Rattle.lower_rows.specs.Grouping.{grouped_of}
use Rattle.lower_rows.proofs.groups.push_all.Given as goal

abbrev pub invariant-loop-grouped : goal.invariant-loop-grouped
invariant-loop-grouped l =
    map fork_group_of l.fn.groups.items ++ map (of_function l.function) (map grouped_of l.fn.made.items)
    ≡ map fork_group_of l.groups.items ++ map (of_function l.function) (map grouped_of l.grouped-iterator.rest.items)
