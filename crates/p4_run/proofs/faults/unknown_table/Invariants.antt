use Rattle.std.proofs.Common.{◌≡◌, [], drop, map, take}
use Rattle.p4_ir.specs.Loading.{all_tables, table_numbers}
use Rattle.p4_ir.specs.NetOf.{table_rows_of}
use Rattle.p4_ir.specs.P4Kinds.{numbers_of}
use Rattle.p4_ir.specs.P4Tree.{Program}
use Rattle.p4_run.specs.Faults.{first_unknown}
use Rattle.p4_run.specs.Runs.{PlacesTables}
use Rattle.p4_run.proofs.faults.unknown_table.Given as goal

abbrev pub invariant-loop-index : goal.invariant-loop-index
invariant-loop-index l =
    (p : Program) → PlacesTables p (map table_rows_of l.tables) l.places
    → first_unknown (numbers_of (all_tables p)) (table_numbers (map table_rows_of (take l.index l.tables))) (map table_rows_of (drop l.index l.tables))
    ≡ first_unknown (numbers_of (all_tables p)) [] (map table_rows_of l.tables)
