use Rattle.std.proofs.Common.{map, take}
use Rattle.p4_ir.specs.NetOf.{table_rows_of}
use Rattle.p4_ir.specs.Program.{program_of}
use Rattle.p4_run.specs.Runs.{AreApplied}
use Rattle.p4_run.proofs.tables.tables_with.Given as goal

abbrev pub invariant-loop-own : goal.invariant-loop-own
invariant-loop-own l = AreApplied (program_of l.program) (map table_rows_of (take l.own-index l.rows)) l.tables.items
