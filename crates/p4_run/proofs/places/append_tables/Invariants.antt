use Rattle.std.proofs.Common.{◌++◌, ℕ, List, map, take}
use Rattle.numbering.specs.NumberPlaces.{HasPlaces}
use Rattle.p4_ir.specs.P4Kinds.{numbers_of}
use Rattle.p4_ir.specs.Program.{table_of}
use Rattle.p4_run.proofs.places.append_tables.Given as goal

abbrev pub invariant-loop-table : goal.invariant-loop-table
invariant-loop-table l =
    (numbers : List ℕ) → HasPlaces l.fn.places numbers → HasPlaces l.places (numbers ++ numbers_of (map table_of (take l.table-index l.tables)))
