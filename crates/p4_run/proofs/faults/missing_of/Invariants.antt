use Rattle.std.proofs.Common.{◌≡◌, ℕ, List, drop, map}
use Rattle.numbering.specs.NumberPlaces.{HasPlaces}
use Rattle.p4_ir.specs.Program.{table_of}
use Rattle.p4_run.specs.Faults.{first_missing}
use Rattle.p4_run.proofs.faults.missing_of.Given as goal

abbrev pub invariant-loop-table : goal.invariant-loop-table
invariant-loop-table l =
    (numbers : List ℕ) → HasPlaces l.given numbers → first_missing numbers (map table_of (drop l.table-index l.tables)) ≡ first_missing numbers (map table_of l.tables)
