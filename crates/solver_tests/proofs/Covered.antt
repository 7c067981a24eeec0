-- Environments that have the inputs of all terms of an arena up to one.
use Rattle.std.proofs.Common.{◌≡◌, ℕ, ◌+◌, ◌<◌, List, Some, slice_get, sym, subst, arith, inl, inr}
use Rattle.std.specs.List.{AllByRecursion}
use Rattle.std.proofs.lemmas.List.Elements.{recursion_from_All}
use Rattle.std.proofs.lemmas.Bool.{cases_lt}
use Rattle.bv_terms.specs.declared.eval.Env.{Env}
use Rattle.bv_terms.specs.declared.node.Node.{Node}
use Rattle.bv_terms.specs.declared.node.Node.TheVariants.{Constant, Input, Apply, Not, Binary, Slice, Pick}
use Rattle.bv_terms.specs.Arenas.{IsArena, made_of, parts, term_at}
use Rattle.bv_terms.specs.Environments.{Covers}
use Rattle.bv_terms.specs.TermTrees.{Term}
use Rattle.solver_tests.proofs.Unapplied.{each}
use Rattle.solver_tests.specs.Plain.{CoversNode}

abbrev pub CoveredBefore : Env → List Node → ℕ → Type 0
CoveredBefore env nodes n = (k : ℕ) → k < n → Covers env (term_at nodes k)

made-covered : (env : Env) (f : ℕ → Term) (node : Node) → CoversNode env node → AllByRecursion (λ p. Covers env (f p)) (parts node) → Covers env (made_of f node)
made-covered env f (Constant b) n h = tt
made-covered env f (Input i w) n h = n
made-covered env f (Apply g args w) n h = absurd n
made-covered env f (Not a) n h = h.0
made-covered env f (Binary op a b) n h = (h.0, h.1.0)
made-covered env f (Slice a high low) n h = h.0
made-covered env f (Pick c a b) n h = (h.0, h.1.0, h.1.1.0)

pub next-covered : (env : Env) (nodes : List Node) (n : ℕ) (node : Node) → IsArena nodes → slice_get nodes n ≡ Some node → CoversNode env node
    → CoveredBefore env nodes n → CoveredBefore env nodes (n + 1)
next-covered env nodes n node arena at free before k l = elim (cases_lt k n) [
  | inl less ↦ before k less
  | inr more ↦
      let same : n ≡ k = omega arith in
      subst (λ x. Covers env (term_at nodes x)) same
      (subst (Covers env) (sym (arena.made n node at))
      (made-covered env (term_at nodes) node free (each (λ p h. before p h) (parts node) (recursion_from_All (λ p. p < n) (parts node) (arena.below n node at)))))
]
