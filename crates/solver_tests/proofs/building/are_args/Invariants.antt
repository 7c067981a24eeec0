use Rattle.std.proofs.Common.{ℕ, ◌<◌, ◌≤◌, get_or, length}
use Rattle.bv_terms.specs.Arenas.{width_at}
use Rattle.solver_tests.proofs.building.are_args.Given as goal

abbrev pub invariant-loop-arg : goal.invariant-loop-arg
invariant-loop-arg l =
    ((k d : ℕ) → k < l.arg-index → get_or l.args k d < length l.terms) × ((k d : ℕ) → k < l.arg-index → width_at l.terms (get_or l.args k d) ≤ 64)
