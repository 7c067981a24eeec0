use Rattle.std.proofs.Common.{◌≡◌, ◌++◌, drop, map}
use Rattle.p4_ir.specs.NetOf.{key_row_of}
use Rattle.row_search.specs.Scanned as spec
use Rattle.row_search.proofs.scanned.rows_tests.Given as goal

abbrev pub invariant-loop-row : goal.invariant-loop-row
invariant-loop-row l = l.tests.items ++ spec.rows_tests (map key_row_of (drop l.row-index l.rows)) ≡ spec.rows_tests (map key_row_of l.rows)
