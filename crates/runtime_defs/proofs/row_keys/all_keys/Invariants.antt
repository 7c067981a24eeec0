use Rattle.std.proofs.Common.{take}
use Rattle.std.specs.List.{AllZip}
use Rattle.runtime_defs.specs.RowKeys.{MayBeKeyed}
use Rattle.runtime_defs.proofs.row_keys.all_keys.Given as goal

abbrev pub invariant-loop-place : goal.invariant-loop-place
invariant-loop-place l = AllZip MayBeKeyed (take l.place-index l.tables) l.keys.items
