use Rattle.std.proofs.Common.{◌≡◌, true, map, sym, subst}
use Rattle.cocoon_num.specs.Lists.{each}
use Rattle.p4_ir.specs.NetOf.{rows_of, table_rows_of}
use Rattle.p4_ir.specs.Program.{program_of}
use Rattle.p4_run.specs.Runs.{AreApplied, own_rows_fit}
use Rattle.p4_run.proofs.TableFacts.{loads_of}
use Rattle.p4_run.proofs.loading.resolved.Goals as goal

pub tables_with-requires-clause-rows : goal.tables_with-requires-clause-rows
tables_with-requires-clause-rows c =
    let p = program_of c.args.program.now in
    subst (λ ts. each (own_rows_fit p) (map table_rows_of ts) ≡ true) (sym c.items.ensures) (loads_of p (rows_of c.args.rows.now) c.requires.loads).tables

pub placed-requires-clause-tables : goal.placed-requires-clause-tables
placed-requires-clause-tables c =
    subst (λ ts. AreApplied (program_of c.args.program.now) (map table_rows_of ts) c.in_ok-tables.tables.items) c.items.ensures c.in_ok-tables.ensures
