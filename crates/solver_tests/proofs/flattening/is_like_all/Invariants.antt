use Rattle.std.proofs.Common.{◌≡◌, ◌<◌, ℕ, slice_get, Some}
use Rattle.bv_terms.specs.declared.node.Node.{Node}
use Rattle.bv_terms.specs.Arenas.{width_at}
use Rattle.solver_tests.specs.Plain.{NodesAlike}
use Rattle.solver_tests.proofs.flattening.is_like_all.Given as goal

abbrev pub invariant-loop-other : goal.invariant-loop-other
invariant-loop-other l = (k : ℕ) → k < l.other → (n : Node) → slice_get l.terms k ≡ Some n → NodesAlike (width_at l.terms) l.node n
