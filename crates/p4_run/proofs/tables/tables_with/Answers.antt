use Rattle.std.proofs.Common.{map, subst}
use Rattle.std.proofs.lemmas.List.{take_all}
use Rattle.p4_ir.specs.NetOf.{table_rows_of}
use Rattle.p4_ir.specs.Program.{program_of}
use Rattle.p4_run.specs.Runs.{AreApplied, own_rows_fit}
use Rattle.p4_run.proofs.AppliedTables.{applied_more}
use Rattle.p4_run.proofs.TableFacts.{each_at}
use Rattle.p4_run.proofs.tables.tables_with.Goals as goal

pub table_with-requires-clause-rows : goal.table_with-requires-clause-rows
table_with-requires-clause-rows c =
    each_at table_rows_of (own_rows_fit (program_of c.args.program.now)) c.args.rows.now c.loop-own.own-index c.own-item.result c.requires.rows c.loop-own-test.true c.own-item.is

pub loop-own-preserved : goal.loop-own-preserved
loop-own-preserved c =
    applied_more (program_of c.args.program.now) c.args.rows.now c.loop-own.own-index c.own-item.result c.loop-own.tables.items c.push.new.self.items c.in_ok-table_with.field-0
    c.loop-own-test.true c.own-item.is c.in_ok-push.ensures.items c.loop-own.invariant c.in_ok-table_with.ensures

pub returns : goal.returns
returns c =
    subst (λ ts. AreApplied (program_of c.args.program.now) (map table_rows_of ts) c.loop-own.tables.items) (take_all c.loop-own.own-index c.args.rows.now c.loop-own-test.false) c.loop-own.invariant
