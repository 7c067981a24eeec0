-- Cited by the private clauses of lower_p4, and by those of reference_programs and of tests: rows of no table and no group.
use Rattle.std.specs.Prelude.{[]}
use Rattle.p4_ir.specs.P4Tree.{RowsFile}

abbrev pub no_rows : RowsFile
no_rows = record { tables = []; groups = [] }
