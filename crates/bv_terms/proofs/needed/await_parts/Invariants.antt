use Rattle.std.proofs.Common.{◌≡◌, ◌||◌, ℕ, take}
use Rattle.std.specs.Ordering.{nat_cmp}
use Rattle.std.specs.BTreeSet.{contains}
use Rattle.bv_terms.specs.Arenas.{parts}
use Rattle.bv_terms.specs.Needed.{is_in}
use Rattle.bv_terms.proofs.needed.await_parts.Given as goal

abbrev pub invariant-loop-place : goal.invariant-loop-place
invariant-loop-place l = (q : ℕ) → contains nat_cmp l.waiting q ≡ (contains nat_cmp l.initial.waiting q || is_in (take l.place (parts l.node)) q)
