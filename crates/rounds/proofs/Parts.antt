-- Parts of goals in an arena.
use Rattle.std.proofs.Common.{◌≡◌, ℕ, ◌<◌, List, length, Some, sym, subst, arith, ◌∙◌}
use Rattle.std.specs.Prelude.{slice_get}
use Rattle.std.specs.List.{AllByRecursion}
use Rattle.std.proofs.lemmas.List.Elements.{recursion_from_All}
use Rattle.bit_blast.specs.Goals.{IsGoal}
use Rattle.bv_terms.specs.Arenas.{IsArena, KeepsTerms, parts, term_at}
use Rattle.bv_terms.specs.TermTrees.{binary}
use Rattle.bv_terms.specs.declared.node.Node.{Node}
use Rattle.bv_terms.specs.declared.node.Node.TheVariants.{Binary, Not}
use Rattle.bv_terms.specs.declared.node.TermOp.{TermOp}
use Rattle.bv_terms.specs.declared.node.TermOp.TheVariants.{And}
use Rattle.bv_terms.proofs.Members.{each}
use Rattle.bv_terms.proofs.ReplaceFacts.{grown-length}
use Rattle.rounds.specs.Short.{IsPart}

module _ (nodes : List Node) (arena : IsArena nodes) where
  -- parts of nodes are there
  pub parts-there : (k : ℕ) (node : Node) → k < length nodes → slice_get nodes k ≡ Some node → AllByRecursion (λ p. p < length nodes) (parts node)
  parts-there k node l e = each (λ p (h : p < k). omega (arith, h, l)) (parts node) (recursion_from_All (λ p. p < k) (parts node) (arena.below k node e))

  -- so both operands of a node are
  pub first_there : (k : ℕ) (op : TermOp) (a b : ℕ) → k < length nodes → slice_get nodes k ≡ Some (Binary op a b) → a < length nodes
  first_there k op a b l e = (parts-there k (Binary op a b) l e).0

  pub second_there : (k : ℕ) (op : TermOp) (a b : ℕ) → k < length nodes → slice_get nodes k ≡ Some (Binary op a b) → b < length nodes
  second_there k op a b l e = (parts-there k (Binary op a b) l e).1.0

  -- and the one of a node that turns each bit
  pub only_there : (k a : ℕ) → k < length nodes → slice_get nodes k ≡ Some (Not a) → a < length nodes
  only_there k a l e = (parts-there k (Not a) l e).0

  goal-of : (k a b : ℕ) → IsPart nodes k → slice_get nodes k ≡ Some (Binary And a b) → IsGoal (binary And (term_at nodes a) (term_at nodes b))
  goal-of k a b p e = subst IsGoal (arena.made k (Binary And a b) e) p.goal

  -- both operands of a goal are goals
  pub first-part : (k a b : ℕ) → IsPart nodes k → slice_get nodes k ≡ Some (Binary And a b) → IsPart nodes a
  first-part k a b p e =
      let g = goal-of k a b p e in
      record {
        there = (parts-there k (Binary And a b) p.there e).0;
        goal = record { term = g.term.0; truth = g.truth; unapplied = g.unapplied.0 };
      }

  pub second-part : (k a b : ℕ) → IsPart nodes k → slice_get nodes k ≡ Some (Binary And a b) → IsPart nodes b
  second-part k a b p e =
      let g = goal-of k a b p e in
      record {
        there = (parts-there k (Binary And a b) p.there e).1.0;
        goal = record { term = g.term.1; truth = sym g.term.2 ∙ g.truth; unapplied = g.unapplied.1 };
      }

-- a part stays one
pub part-kept : (a b : List Node) → KeepsTerms a b → (id : ℕ) → IsPart a id → IsPart b id
part-kept a b k id p = record {
  there = (let g = grown-length a b k in let l = p.there in omega (arith, l, g));
  goal = subst IsGoal (sym (k.terms id p.there)) p.goal;
}
