use Rattle.std.proofs.Common.{◌≡◌, drop}
use Rattle.row_search.specs.Keyed.{keyed}
use Rattle.row_search.specs.Least as least
use Rattle.row_search.proofs.parted.least_place.Given as goal

abbrev pub invariant-loop-part : goal.invariant-loop-part
invariant-loop-part l = least.least_place l.found (drop l.part-index l.parts) (keyed l.meta l.keys) ≡ least.least_place l.place l.parts (keyed l.meta l.keys)
