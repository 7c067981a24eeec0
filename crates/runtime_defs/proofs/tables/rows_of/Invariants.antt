use Rattle.std.proofs.Common.{map, take}
use Rattle.std.specs.Prelude.{filter_map}
use Rattle.std.specs.List.{AllZip}
use Rattle.cocoon_syntax.specs.TreeOf.{entry_of}
use Rattle.cocoon_types.specs.Tables.{row_of}
use Rattle.runtime_defs.specs.Bound.{IsRow}
use Rattle.runtime_defs.proofs.tables.rows_of.Given as goal

abbrev pub invariant-loop-entry : goal.invariant-loop-entry
invariant-loop-entry l = AllZip IsRow (filter_map (row_of l.function) (map entry_of (take l.entry-index l.entries))) l.rows.items
