use Rattle.std.proofs.Common.{◌≡◌, ◌++◌, drop, map}
use Rattle.lowering_correct.specs.SwitchRows.{groups_from}
use Rattle.p4_ir.specs.NetOf.{group_of}
use Rattle.lower_rows.specs.AllGroups.{fork_group_of}
use Rattle.lower_rows.proofs.rows.numbered_groups.Given as goal

abbrev pub invariant-loop-group : goal.invariant-loop-group
invariant-loop-group l =
    map group_of l.numbered.items ++ groups_from l.number (map fork_group_of (drop l.group-index l.groups)) ≡ groups_from 1 (map fork_group_of l.groups)
