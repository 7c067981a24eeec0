use Rattle.std.proofs.Common.{◌≡◌, ◌<◌, ℕ, slice_get, Some}
use Rattle.bv_terms.specs.declared.node.Node.{Node}
use Rattle.solver_tests.specs.Plain.{IsLikeAll}
use Rattle.solver_tests.proofs.flattening.are_all_alike.Given as goal

abbrev pub invariant-loop-term : goal.invariant-loop-term
invariant-loop-term l = (k : ℕ) → k < l.term → (n : Node) → slice_get l.terms k ≡ Some n → IsLikeAll l.terms n
