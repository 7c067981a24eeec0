use Rattle.std.proofs.Common.{map, take}
use Rattle.numbering.specs.NumberPlaces.{HasPlaces}
use Rattle.p4_ir.specs.Loading.{table_numbers}
use Rattle.p4_ir.specs.NetOf.{table_rows_of}
use Rattle.p4_run.proofs.places.row_places.Given as goal

abbrev pub invariant-loop-own : goal.invariant-loop-own
invariant-loop-own l = HasPlaces l.places (table_numbers (map table_rows_of (take l.own-index l.rows)))
