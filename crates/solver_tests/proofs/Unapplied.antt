-- Arenas without applications.
use Rattle.std.proofs.Common.{◌≡◌, ℕ, ◌+◌, ◌<◌, List, [], ◌∷◌, Some, slice_get, sym, subst, arith, inl, inr}
use Rattle.std.specs.List.{AllByRecursion}
use Rattle.std.proofs.lemmas.List.Elements.{recursion_from_All}
use Rattle.std.proofs.lemmas.Bool.{cases_lt}
use Rattle.bv_terms.specs.declared.node.Node.{Node}
use Rattle.bv_terms.specs.declared.node.Node.TheVariants.{Constant, Input, Apply, Not, Binary, Slice, Pick}
use Rattle.bv_terms.specs.Arenas.{IsArena, made_of, parts, term_at}
use Rattle.bv_terms.specs.TermTrees.{Term}
use Rattle.bit_blast.specs.Goals.{IsUnapplied}
use Rattle.solver_tests.specs.Plain.{NotApplied}

abbrev pub UnappliedBefore : List Node → ℕ → Type 0
UnappliedBefore nodes n = (k : ℕ) → k < n → IsUnapplied (term_at nodes k)

made-unapplied : (f : ℕ → Term) (node : Node) → NotApplied node → AllByRecursion (λ p. IsUnapplied (f p)) (parts node) → IsUnapplied (made_of f node)
made-unapplied f (Constant b) n h = tt
made-unapplied f (Input i w) n h = tt
made-unapplied f (Apply g args w) n h = absurd n
made-unapplied f (Not a) n h = h.0
made-unapplied f (Binary op a b) n h = (h.0, h.1.0)
made-unapplied f (Slice a high low) n h = h.0
made-unapplied f (Pick c a b) n h = (h.0, h.1.0, h.1.1.0)

pub each : {P Q : ℕ → Type 0} → ((p : ℕ) → P p → Q p) → (ps : List ℕ) → AllByRecursion P ps → AllByRecursion Q ps
each f [] h = tt
each f (p ∷ ps) h = (f p h.0, each f ps h.1)

pub next-unapplied : (nodes : List Node) (n : ℕ) (node : Node) → IsArena nodes → slice_get nodes n ≡ Some node → NotApplied node → UnappliedBefore nodes n → UnappliedBefore nodes (n + 1)
next-unapplied nodes n node arena at free before k l = elim (cases_lt k n) [
  | inl less ↦ before k less
  | inr more ↦
      let same : n ≡ k = omega arith in
      subst (λ x. IsUnapplied (term_at nodes x)) same
      (subst IsUnapplied (sym (arena.made n node at))
      (made-unapplied (term_at nodes) node free (each (λ p h. before p h) (parts node) (recursion_from_All (λ p. p < n) (parts node) (arena.below n node at)))))
]
