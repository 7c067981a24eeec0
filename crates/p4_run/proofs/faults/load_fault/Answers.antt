use Rattle.std.proofs.Common.{◌≡◌, [], map, rules, sym, subst}
use Rattle.p4_ir.specs.Loading.{all_tables, table_numbers}
use Rattle.p4_ir.specs.NetOf.{table_rows_of}
use Rattle.p4_ir.specs.P4Kinds.{numbers_of}
use Rattle.p4_ir.specs.Program.{program_of}
use Rattle.p4_run.specs.Faults.{first_missing, first_unknown}
use Rattle.p4_run.specs.Runs.{PlacesTables}
use Rattle.p4_run.proofs.faults.load_fault.Goals as goal

pub returns-in-Some : goal.returns-in-Some
returns-in-Some c =
    let p = program_of c.args.program.now in
    let rows = map table_rows_of c.items-tables.result.now in
    let placed : PlacesTables p rows c.args.places.now = subst (λ ts. PlacesTables p (map table_rows_of ts) c.args.places.now) (sym c.items-tables.ensures) c.requires in
    let unknown : c.unknown_table.result ≡ first_unknown (numbers_of (all_tables p)) [] rows = c.unknown_table.ensures p placed in
    search rules

pub returns-in-Some-missing_table : goal.returns-in-Some-missing_table
returns-in-Some-missing_table c =
    let p = program_of c.args.program.now in
    let rows = map table_rows_of c.items-tables.result.now in
    let placed : PlacesTables p rows c.args.places.now = subst (λ ts. PlacesTables p (map table_rows_of ts) c.args.places.now) (sym c.items-tables.ensures) c.requires in
    let unknown : c.unknown_table.result ≡ first_unknown (numbers_of (all_tables p)) [] rows = c.unknown_table.ensures p placed in
    let missing : c.missing_table.result ≡ first_missing (table_numbers rows) (all_tables p) = c.missing_table.ensures (table_numbers rows) placed.rows in
    search rules

pub returns-in-Some-2 : goal.returns-in-Some-2
returns-in-Some-2 c =
    let p = program_of c.args.program.now in
    let rows = map table_rows_of c.items-tables.result.now in
    let placed : PlacesTables p rows c.args.places.now = subst (λ ts. PlacesTables p (map table_rows_of ts) c.args.places.now) (sym c.items-tables.ensures) c.requires in
    let unknown : c.unknown_table.result ≡ first_unknown (numbers_of (all_tables p)) [] rows = c.unknown_table.ensures p placed in
    let missing : c.missing_table.result ≡ first_missing (table_numbers rows) (all_tables p) = c.missing_table.ensures (table_numbers rows) placed.rows in
    search rules

pub returns-in_ok-short_index-in-Some-3 : goal.returns-in_ok-short_index-in-Some-3
returns-in_ok-short_index-in-Some-3 c =
    let p = program_of c.args.program.now in
    let rows = map table_rows_of c.items-tables.result.now in
    let placed : PlacesTables p rows c.args.places.now = subst (λ ts. PlacesTables p (map table_rows_of ts) c.args.places.now) (sym c.items-tables.ensures) c.requires in
    let unknown : c.unknown_table.result ≡ first_unknown (numbers_of (all_tables p)) [] rows = c.unknown_table.ensures p placed in
    let missing : c.missing_table.result ≡ first_missing (table_numbers rows) (all_tables p) = c.missing_table.ensures (table_numbers rows) placed.rows in
    search rules

pub returns-in-None : goal.returns-in-None
returns-in-None c =
    let p = program_of c.args.program.now in
    let rows = map table_rows_of c.items-tables.result.now in
    let placed : PlacesTables p rows c.args.places.now = subst (λ ts. PlacesTables p (map table_rows_of ts) c.args.places.now) (sym c.items-tables.ensures) c.requires in
    let unknown : c.unknown_table.result ≡ first_unknown (numbers_of (all_tables p)) [] rows = c.unknown_table.ensures p placed in
    let missing : c.missing_table.result ≡ first_missing (table_numbers rows) (all_tables p) = c.missing_table.ensures (table_numbers rows) placed.rows in
    search rules
