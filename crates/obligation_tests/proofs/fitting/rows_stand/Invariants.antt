use Rattle.std.proofs.Common.{take}
use Rattle.std.specs.List.{All}
use Rattle.obligation_tests.specs.Plain.{RowStands}
use Rattle.obligation_tests.proofs.fitting.rows_stand.Given as goal

abbrev pub invariant-loop-row : goal.invariant-loop-row
invariant-loop-row l = All (RowStands l.widths l.width) (take l.row-index l.rows)
