use Rattle.std.proofs.Common.{◌≡◌, ◌++◌, drop}
use Rattle.row_search.specs.Laid.{masked}
use Rattle.row_search.proofs.laying.push_masked.Given as goal

abbrev pub invariant-loop-index : goal.invariant-loop-index
invariant-loop-index l = l.laid.items ++ masked (drop l.index l.masks) (drop l.index l.numbers) ≡ l.fn.laid.items ++ masked l.masks l.numbers
