use Rattle.std.proofs.Common.{false, IsTrue, map, sym, subst}
use Rattle.std.proofs.lemmas.Result.{IfOk-weaker}
use Rattle.numbering.specs.NumberPlaces.{HasPlaces}
use Rattle.p4_ir.specs.Loading.{table_numbers}
use Rattle.p4_ir.specs.NetOf.{rows_of, table_rows_of}
use Rattle.p4_ir.specs.P4Kinds.{block_fits}
use Rattle.p4_ir.specs.Program.{block_of, program_of, stmt_of}
use Rattle.p4_run.specs.Controls.{within_in}
use Rattle.p4_run.specs.Doing.{AreTables, DoesAll}
use Rattle.p4_run.specs.Effects.{stmt_by, stmts_by}
use Rattle.p4_run.proofs.AppliedTables.{are_tables}
use Rattle.p4_run.proofs.RunFacts.{runs_of}
use Rattle.p4_run.proofs.TableFacts.{kinds_of}
use Rattle.p4_run.proofs.loading.egress_steps.Goals as goal

pub resolved_stmts-requires-clause-names : goal.resolved_stmts-requires-clause-names
resolved_stmts-requires-clause-names c = record { widths = (kinds_of (program_of c.args.program.now) c.requires.kinds).widths; starts = c.requires.starts }

pub resolved_stmts-requires-clause-places : goal.resolved_stmts-requires-clause-places
resolved_stmts-requires-clause-places c =
    subst (λ ts. HasPlaces c.args.places.now (table_numbers (map table_rows_of ts))) (sym c.items.ensures) c.requires.places

pub resolved_stmts-requires-clause-tables : goal.resolved_stmts-requires-clause-tables
resolved_stmts-requires-clause-tables c =
    let p = program_of c.args.program.now in
    subst (λ ts. AreTables p (map table_rows_of ts) false c.args.tables.now) (sym c.items.ensures)
    (are_tables p (rows_of c.args.rows.now) false c.args.tables.now c.requires.kinds c.requires.loads c.requires.tables)

pub resolved_stmts-requires-clause-kinds : goal.resolved_stmts-requires-clause-kinds
resolved_stmts-requires-clause-kinds c =
    let p = program_of c.args.program.now in
    subst (λ ss. IsTrue (block_fits (within_in p false) (block_of (map stmt_of ss)))) (sym c.items-stmts.ensures) ((kinds_of p c.requires.kinds).body false)

pub returns : goal.returns
returns c =
    let p = program_of c.args.program.now in
    let tables = c.args.tables.now in
    IfOk-weaker c.resolved_stmts.result _ _
    (λ steps d.
    let f = stmts_by (map stmt_by steps.items) in
    runs_of p (rows_of c.args.rows.now).tables false tables f
    (subst (λ ts. DoesAll p (map table_rows_of ts) false tables p.egress.body f) c.items.ensures
    (subst (λ ss. DoesAll p (map table_rows_of c.items.result.now) false tables (block_of (map stmt_of ss)) f) c.items-stmts.ensures d)))
    c.resolved_stmts.ensures
