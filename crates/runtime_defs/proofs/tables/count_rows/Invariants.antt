use Rattle.std.proofs.Common.{◌≡◌, ◌≤◌, ◌+◌, drop, map}
use Rattle.cocoon_syntax.specs.TreeOf.{entry_of}
use Rattle.runtime_defs.specs.Bound.{row_count}
use Rattle.runtime_defs.proofs.tables.count_rows.Given as goal

abbrev pub invariant-loop-entry : goal.invariant-loop-entry
invariant-loop-entry l = record {
  counted : l.count + row_count (map entry_of (drop l.entry-index l.entries)) ≡ row_count (map entry_of l.entries);
  bound : l.count ≤ l.entry-index;
}
