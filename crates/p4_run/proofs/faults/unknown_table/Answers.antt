use Rattle.std.proofs.Common.{[], map, sym, ◌∙◌}
use Rattle.p4_ir.specs.Loading.{all_tables}
use Rattle.p4_ir.specs.NetOf.{table_rows_of}
use Rattle.p4_ir.specs.P4Kinds.{numbers_of}
use Rattle.p4_run.specs.Faults.{first_unknown}
use Rattle.p4_run.proofs.FaultSteps.{unknown_goes, unknown_stops}
use Rattle.p4_run.proofs.faults.unknown_table.Goals as goal

pub returns-then-not-is_new : goal.returns-then-not-is_new
returns-then-not-is_new c = λ p h.
    let numbers = numbers_of (all_tables p) in
    let tables = c.args.tables.now in
    let rows = map table_rows_of tables in
    unknown_stops numbers tables c.loop-index.index c.index-tables-index.result (first_unknown numbers [] rows) c.loop-index-test.true c.index-tables-index.is
    (sym (c.is_new.ensures p rows h) ∙ c.if-not-is_new.true) (c.loop-index.invariant p h)

pub loop-index-preserved : goal.loop-index-preserved
loop-index-preserved c = λ p h.
    let numbers = numbers_of (all_tables p) in
    let tables = c.args.tables.now in
    let rows = map table_rows_of tables in
    unknown_goes numbers tables c.loop-index.index c.index-tables-index.result (first_unknown numbers [] rows) c.loop-index-test.true c.index-tables-index.is
    (sym (c.is_new.ensures p rows h) ∙ c.if-not-is_new.false) (c.loop-index.invariant p h)
