use Rattle.std.proofs.Common.{map, take, sym, subst}
use Rattle.std.specs.Prelude.{filter_map}
use Rattle.std.specs.List.{AllZip}
use Rattle.cocoon_syntax.specs.TreeOf.{entry_of}
use Rattle.cocoon_types.specs.Tables.{row_of}
use Rattle.runtime_defs.specs.Bound.{IsRow}
use Rattle.runtime_defs.specs.Steps.{RowIsNarrow}
use Rattle.runtime_defs.proofs.Defined.{mapped-at}
use Rattle.runtime_defs.proofs.Tabled.{chosen-more}
use Rattle.runtime_defs.proofs.tables.rows_of.Goals as goal

pub loop-entry-preserved : goal.loop-entry-preserved
loop-entry-preserved c = subst (λ rows. AllZip IsRow rows c.push_row.new.rows.items)
    (sym (chosen-more (row_of c.args.function.now) entry_of c.args.entries.now c.loop-entry.entry-index c.entry-item.result c.loop-entry-test.true c.entry-item.is))
    (c.in_ok-push_row.ensures (filter_map (row_of c.args.function.now) (map entry_of (take c.loop-entry.entry-index c.args.entries.now))) c.loop-entry.invariant)

pub push_row-requires : goal.push_row-requires
push_row-requires c = mapped-at (RowIsNarrow c.args.function.now) entry_of c.args.entries.now c.loop-entry.entry-index c.entry-item.result c.requires c.loop-entry-test.true c.entry-item.is
