use Rattle.std.proofs.Common.{◌≡◌, drop, map}
use Rattle.cocoon_num.specs.Lists.{each}
use Rattle.p4_ir.specs.P4Kinds.{table_fits}
use Rattle.p4_ir.specs.Program.{program_of, table_of}
use Rattle.p4_kinds.proofs.numbers.are_fitting.Given as goal

abbrev pub invariant-loop-table : goal.invariant-loop-table
invariant-loop-table l = each (table_fits (program_of l.program)) (map table_of (drop l.table-index l.tables)) ≡ each (table_fits (program_of l.program)) (map table_of (l.tables))
