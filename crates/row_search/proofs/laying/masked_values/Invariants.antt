use Rattle.std.proofs.Common.{◌≡◌, ◌++◌, drop, map}
use Rattle.p4_ir.specs.NetOf.{key_row_of}
use Rattle.row_search.specs.Laid as spec
use Rattle.row_search.proofs.laying.masked_values.Given as goal

abbrev pub invariant-loop-row : goal.invariant-loop-row
invariant-loop-row l = l.laid.items ++ spec.masked_values l.masks (map key_row_of (drop l.row-index l.rows)) ≡ spec.masked_values l.masks (map key_row_of l.rows)
