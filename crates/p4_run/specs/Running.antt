-- Cited by the clauses of runs: what is loaded, as values of the definitions.
use Rattle.cocoon_num.specs.Packets.{Layout}
use Rattle.p4_ir.specs.NetOf.{rows_of}
use Rattle.p4_ir.specs.P4Tree.{Program, program_layout, RowsFile}
use Rattle.p4_ir.specs.Program.{program_of}
use Rattle.p4_run.specs.declared.loaded.Loaded.{Loaded}

-- the program, its rows, and the widths of its headers
abbrev pub program_in : Loaded → Program
program_in l = program_of l.origin.program

abbrev pub rows_in : Loaded → RowsFile
rows_in l = rows_of l.origin.rows

abbrev pub layout_in : Loaded → Layout
layout_in l = program_layout (program_in l)
