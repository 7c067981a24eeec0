use Rattle.std.proofs.Common.{map, ap}
use Rattle.std.proofs.lemmas.Result.{IfOk-weaker}
use Rattle.p4_ir.specs.Loading.{all_tables}
use Rattle.p4_ir.specs.Program.{field_of, program_of}
use Rattle.p4_ir.specs.Switch.{table_numbered}
use Rattle.p4_run.proofs.AppliedTables.{applied_one, keys_some, keys_within, rows_within}
use Rattle.p4_run.proofs.tables.table_with.Goals as goal

pub new-requires-clause-some : goal.new-requires-clause-some
new-requires-clause-some c = keys_some (program_of c.args.program.now) c.args.rows.now.number c.in-Some.table.now c.requires.kinds c.in-Some.ensures

pub new-requires-clause-rows : goal.new-requires-clause-rows
new-requires-clause-rows c =
    let p = program_of c.args.program.now in
    rows_within p (table_numbered (all_tables p) c.args.rows.now.number) c.in-Some.table.now c.args.rows.now c.in-Some.ensures c.requires.rows

pub new-requires-clause-keys : goal.new-requires-clause-keys
new-requires-clause-keys c =
    let p = program_of c.args.program.now in
    keys_within p c.args.rows.now.number c.in-Some.table.now c.items-meta_count.result.now c.requires.kinds c.in-Some.ensures (ap (map field_of) c.items-meta_count.ensures)

pub returns : goal.returns
returns c =
    let p = program_of c.args.program.now in
    IfOk-weaker c.new.result _ _ (λ a h. applied_one p c.args.rows.now a c.in-Some.table.now c.items-meta_count.result.now (ap (map field_of) c.items-meta_count.ensures) c.in-Some.ensures h) c.new.ensures
