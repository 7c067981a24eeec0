use Rattle.std.proofs.Common.{◌≡◌, ◌<◌, ℕ, Some, slice_get}
use Rattle.std.specs.Option.{IsSome}
use Rattle.bv_terms.specs.Arenas.{parts}
use Rattle.bv_terms.specs.TermMaps.{value_at}
use Rattle.obligation_gen.proofs.known.Known.unknown_part.Given as goal

abbrev pub invariant-loop-place : goal.invariant-loop-place
invariant-loop-place l = (k p : ℕ) → k < l.place → slice_get (parts l.node) k ≡ Some p → IsSome (value_at l.self.ids p)
