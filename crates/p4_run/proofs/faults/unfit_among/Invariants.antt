use Rattle.std.proofs.Common.{◌≡◌, drop, map}
use Rattle.p4_ir.specs.NetOf.{key_row_of}
use Rattle.p4_ir.specs.Program.{program_of, table_of}
use Rattle.p4_run.specs.Faults.{first_unfit}
use Rattle.p4_run.proofs.faults.unfit_among.Given as goal

abbrev pub invariant-loop-index : goal.invariant-loop-index
invariant-loop-index l =
    first_unfit (program_of l.program) (table_of l.table) l.index (map key_row_of (drop l.index l.rows))
    ≡ first_unfit (program_of l.program) (table_of l.table) 0 (map key_row_of l.rows)
