use Rattle.std.proofs.Common.{◌≡◌, drop}
use Rattle.std.specs.Cmp.Lexicographic.{slice_cmp}
use Rattle.std.specs.Ordering.{nat_cmp}
use Rattle.row_search.specs.Keyed.{keyed}
use Rattle.row_search.specs.Laid.{masked}
use Rattle.row_search.proofs.search.compare.Given as goal

abbrev pub invariant-loop-index : goal.invariant-loop-index
invariant-loop-index l =
    slice_cmp nat_cmp (drop l.index l.values) (masked (drop l.index l.masks) (keyed l.meta (drop l.index l.keys)))
    ≡ slice_cmp nat_cmp l.values (masked l.masks (keyed l.meta l.keys))
