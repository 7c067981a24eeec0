use Rattle.std.proofs.Common.{All, take}
use Rattle.numbering.specs.KeyPlaces.{Holds}
use Rattle.runtime_defs.specs.RowKeys.{ComparesAll, row_keys}
use Rattle.runtime_defs.proofs.row_keys.keys_of.Given as goal

abbrev pub invariant-loop-row : goal.invariant-loop-row
invariant-loop-row l = record {
  compared : All (ComparesAll l.table.widths) (take l.row-index l.table.rows);
  held : Holds l.keys (row_keys (take l.row-index l.table.rows));
}
