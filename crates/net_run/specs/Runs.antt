-- Cited by the clauses of `Net`: the program and the rows of a switch, and of one that is loaded.
use Rattle.p4_ir.specs.NetTree.{SwitchFiles}
use Rattle.p4_ir.specs.P4Tree.{Program, RowsFile}
use Rattle.p4_run.specs.Running.{program_in, rows_in}
use Rattle.p4_run.specs.declared.loaded.Loaded.{Loaded}

abbrev pub runs_of : SwitchFiles → Program × RowsFile
runs_of f = (f.program, f.rows)

abbrev pub runs_in : Loaded → Program × RowsFile
runs_in l = (program_in l, rows_in l)
