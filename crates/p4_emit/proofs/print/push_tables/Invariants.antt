use Rattle.std.proofs.Common.{drop, map}
use Rattle.p4_ir.specs.Program.{program_of, table_of}
use Rattle.p4_emit.specs.Printed.{each_text, table_text}
use Rattle.p4_emit.proofs.Printing.{Leads}
use Rattle.p4_emit.proofs.print.push_tables.Given as goal

abbrev pub invariant-loop-table : goal.invariant-loop-table
invariant-loop-table l = Leads l.fn.out l.out (each_text (table_text (program_of l.program)) (map table_of (drop l.table-index l.tables))) (each_text (table_text (program_of l.program)) (map table_of l.tables))
