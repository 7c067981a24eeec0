use Rattle.std.proofs.Common.{◌≡◌, map, take}
use Rattle.lower_rows.specs.Grouping.{keys_of, no_members}
use Rattle.lower_rows.proofs.table_groups.empty_sets.Given as goal

abbrev pub invariant-loop : goal.invariant-loop
invariant-loop l = keys_of l.sets.items ≡ map no_members (take l.index l.lists)
