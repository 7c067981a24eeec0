use Rattle.std.proofs.Common.{◌≡◌, drop}
use Rattle.row_search.specs.Keyed.{keyed}
use Rattle.row_search.specs.Scanned as spec
use Rattle.row_search.proofs.scanned.fits.Given as goal

abbrev pub invariant-loop-index : goal.invariant-loop-index
invariant-loop-index l = spec.fits (drop l.index l.tests) (keyed l.meta (drop l.index l.keys)) ≡ spec.fits l.tests (keyed l.meta l.keys)
