use Rattle.std.proofs.Common.{map, sym, ◌∙◌}
use Rattle.p4_ir.specs.Program.{table_of}
use Rattle.p4_run.specs.Faults.{first_missing}
use Rattle.p4_run.proofs.FaultSteps.{missing_goes, missing_stops}
use Rattle.p4_run.proofs.faults.missing_of.Goals as goal

pub returns-then-not-has : goal.returns-then-not-has
returns-then-not-has c = λ numbers h.
    missing_stops numbers c.args.tables.now c.loop-table.table-index c.table-item.result (first_missing numbers (map table_of c.args.tables.now)) c.loop-table-test.true c.table-item.is
    (sym (c.has.ensures numbers h) ∙ c.if-not-has.true) (c.loop-table.invariant numbers h)

pub loop-table-preserved : goal.loop-table-preserved
loop-table-preserved c = λ numbers h.
    missing_goes numbers c.args.tables.now c.loop-table.table-index c.table-item.result (first_missing numbers (map table_of c.args.tables.now)) c.loop-table-test.true c.table-item.is
    (sym (c.has.ensures numbers h) ∙ c.if-not-has.false) (c.loop-table.invariant numbers h)
