use Rattle.std.proofs.Common.{◌≡◌, ◌++◌, drop, map}
use Rattle.p4_ir.specs.NetOf.{key_row_of}
use Rattle.row_search.specs.Placed as spec
use Rattle.row_search.proofs.placing.placed_rows.Given as goal

abbrev pub invariant-loop-place : goal.invariant-loop-place
invariant-loop-place l =
    map key_row_of l.placed.items ++ spec.placed_in l.part l.place (drop l.place l.numbers) (map key_row_of (drop l.place l.rows))
    ≡ spec.placed_in l.part 0 l.numbers (map key_row_of l.rows)
