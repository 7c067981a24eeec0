use Rattle.std.proofs.Common.{ℕ, ◌||◌, Bool, List, map, vec_len, Vec, Global}
use Rattle.refinement.specs.Trails.{leaves, Marks}
use Rattle.role_meaning.specs.Views.{Keeps, passes, some_goes, var_of}
use Rattle.role_meaning.proofs.paths.leave_all.Given as goal

abbrev pub invariant-loop-trail : goal.invariant-loop-trail
invariant-loop-trail l =
    (t : Marks → Bool) (u : List ℕ → Bool) (found : List (Vec ℕ Global))
    → Keeps (some_goes (λ m. t (leaves (map var_of l.variables) m)) l.fn.trails.items || passes t u l.fn.onward.items found)
    (some_goes (λ m. t (leaves (map var_of l.variables) m)) l.trails.items || passes t u l.onward.items found)

abbrev pub decreases-loop-trail : goal.decreases-loop-trail
decreases-loop-trail l = vec_len l.trails
