use Rattle.std.proofs.Common.{◌≡◌, drop, map}
use Rattle.p4_ir.specs.P4Kinds.{numbers_of}
use Rattle.p4_ir.specs.Program.{table_of}
use Rattle.p4_kinds.specs.Parts.{number_after}
use Rattle.p4_kinds.proofs.numbers.least_after.Given as goal

abbrev pub invariant-loop-table : goal.invariant-loop-table
invariant-loop-table l = number_after l.least (numbers_of (map table_of (drop l.table-index l.tables))) ≡ number_after l.from (numbers_of (map table_of l.tables))
