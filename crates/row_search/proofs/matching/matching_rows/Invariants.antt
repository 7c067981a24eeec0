use Rattle.std.proofs.Common.{◌≡◌, ◌++◌, drop, map}
use Rattle.p4_ir.specs.NetOf.{key_row_of}
use Rattle.row_search.specs.Matching as spec
use Rattle.row_search.proofs.matching.matching_rows.Given as goal

abbrev pub invariant-loop-row : goal.invariant-loop-row
invariant-loop-row l =
    map key_row_of l.matching.items ++ spec.matching l.place l.number (map key_row_of (drop l.row-index l.rows)) ≡ spec.matching l.place l.number (map key_row_of l.rows)
