use Rattle.std.proofs.Common.{◌≡◌, drop, map}
use Rattle.p4_ir.specs.NetOf.{table_rows_of}
use Rattle.p4_ir.specs.Program.{program_of}
use Rattle.p4_run.specs.Faults.{first_row_shape}
use Rattle.p4_run.proofs.faults.row_shape.Given as goal

abbrev pub invariant-loop-table : goal.invariant-loop-table
invariant-loop-table l =
    first_row_shape (program_of l.program) (map table_rows_of (drop l.table-index l.tables)) ≡ first_row_shape (program_of l.program) (map table_rows_of l.tables)
