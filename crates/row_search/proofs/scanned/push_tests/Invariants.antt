use Rattle.std.proofs.Common.{◌≡◌, ◌++◌, drop}
use Rattle.row_search.specs.Scanned.{row_tests}
use Rattle.row_search.proofs.scanned.push_tests.Given as goal

abbrev pub invariant-loop-index : goal.invariant-loop-index
invariant-loop-index l = l.tests.items ++ row_tests (drop l.index l.values) (drop l.index l.masks) ≡ l.fn.tests.items ++ row_tests l.values l.masks
