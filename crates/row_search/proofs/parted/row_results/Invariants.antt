use Rattle.std.proofs.Common.{◌≡◌, map, take}
use Rattle.p4_ir.specs.NetOf.{key_row_of}
use Rattle.row_search.specs.Placed.{results_of}
use Rattle.row_search.proofs.parted.row_results.Given as goal

abbrev pub invariant-loop-row : goal.invariant-loop-row
invariant-loop-row l = l.results.items ≡ results_of (map key_row_of (take l.row-index l.rows))
