use Rattle.std.proofs.Common.{◌≡◌, drop, fold}
use Rattle.numbering.specs.KeyPlaces.{Holds}
use Rattle.runtime_defs.specs.RowKeys.{row_keys}
use Rattle.runtime_defs.specs.FirstRows.{first_rows, with_row}
use Rattle.runtime_defs.specs.LookupRows.{rows_for}
use Rattle.runtime_defs.proofs.rows.rows_of.Given as goal

abbrev pub invariant-loop-lookup : goal.invariant-loop-lookup
invariant-loop-lookup l = record {
  keys : Holds l.keys (row_keys l.rows.items);
  rest : fold with_row l.rows.items (rows_for l.widths l.function (drop l.lookup-index l.lookups)) ≡ first_rows (rows_for l.widths l.function l.lookups);
}
