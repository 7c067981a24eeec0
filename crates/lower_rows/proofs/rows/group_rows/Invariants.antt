use Rattle.std.proofs.Common.{◌≡◌, ◌++◌, drop, map}
use Rattle.lowering_correct.specs.SwitchRows.{rows_from}
use Rattle.p4_ir.specs.NetOf.{key_row_of}
use Rattle.lower_rows.specs.AllGroups.{fork_group_of}
use Rattle.lower_rows.proofs.rows.group_rows.Given as goal

abbrev pub invariant-loop-group : goal.invariant-loop-group
invariant-loop-group l =
    map key_row_of l.rows.items ++ rows_from l.masks l.number (map fork_group_of (drop l.group-index l.groups)) l.function
    ≡ rows_from l.masks 1 (map fork_group_of l.groups) l.function
