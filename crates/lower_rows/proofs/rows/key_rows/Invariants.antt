use Rattle.std.proofs.Common.{◌≡◌, map, take}
use Rattle.lowering_correct.specs.SwitchRows.{key_row}
use Rattle.p4_ir.specs.NetOf.{key_row_of}
use Rattle.lower_rows.proofs.rows.key_rows.Given as goal

abbrev pub invariant-loop-row : goal.invariant-loop-row
invariant-loop-row l = map key_row_of l.made.items ≡ map key_row (take l.row-index l.rows)
