use Rattle.std.proofs.Common.{◌≡◌, ◌||◌, ℕ, drop, map}
use Rattle.cocoon_num.specs.Lists.{has_number}
use Rattle.p4_ir.specs.P4Kinds.{numbers_of}
use Rattle.p4_ir.specs.Program.{table_of}
use Rattle.p4_kinds.proofs.numbers.numbers_of.Given as goal

abbrev pub invariant-loop-table : goal.invariant-loop-table
invariant-loop-table l = (n : ℕ) → (has_number n l.numbers.keys || has_number n (numbers_of (map table_of (drop l.table-index l.tables)))) ≡ has_number n (numbers_of (map table_of l.tables))
