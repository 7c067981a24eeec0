-- Inputs in an arena.
use Rattle.std.proofs.Common.{◌≡◌, ℕ, zero, suc, ◌<◌, ◌≤◌, List, [], ◌∷◌, length, take, Some, refl, sym, ap, subst, ◌∙◌, arith}
use Rattle.std.specs.Prelude.{fold, slice_get}
use Rattle.std.specs.List.{AllByRecursion}
use Rattle.std.proofs.lemmas.List.Elements.{recursion_from_All}
use Rattle.bv_terms.specs.declared.node.Node.{Node}
use Rattle.bv_terms.specs.declared.node.Node.TheVariants.{Constant, Input, Apply, Not, Binary, Slice, Pick}
use Rattle.bv_terms.specs.Arenas.{IsArena, count_input, made_of, parts, term_at}
use Rattle.bv_terms.specs.Inputs.{Mentions}
use Rattle.bv_terms.specs.TermTrees.{Term, constant, input, apply, not_, binary, slice, pick}
use Rattle.bv_terms.proofs.Subterms.{Each, each-made, in-walk}

-- ---- a number has one width

counts_on : (c : ℕ) (node : Node) → c ≤ count_input c node
counts_on c (Input i w) = omega arith
counts_on c (Constant b) = omega arith
counts_on c (Apply f args w) = omega arith
counts_on c (Not a) = omega arith
counts_on c (Binary op a b) = omega arith
counts_on c (Slice a high low) = omega arith
counts_on c (Pick x a b) = omega arith

counts_from : (c : ℕ) (nodes : List Node) → c ≤ fold count_input c nodes
counts_from c [] = omega arith
counts_from c (node ∷ nodes) =
    let a = counts_on c node in
    let b = counts_from (count_input c node) nodes in
    omega (arith, a, b)

same_node : (a b : Node) → Some a ≡ Some b → a ≡ b
same_node a b e = cc

same_width : (i v j w : ℕ) → Input i v ≡ Input j w → v ≡ w
same_width i v j w e = cc

more_behind : (c i w k : ℕ) (node : Node) (nodes : List Node) → node ≡ Input i w → c ≡ fold count_input c (take (suc k) (node ∷ nodes)) → ⊥
more_behind c i w k node nodes e same =
    let here : count_input c node ≡ suc c = ap (count_input c) e in
    let more = counts_from (count_input c node) (take k nodes) in
    let all : c ≡ fold count_input (count_input c node) (take k nodes) = same in
    omega (arith, here, more, all)

counted : (nodes : List Node) (c j k i v w : ℕ) → slice_get nodes j ≡ Some (Input i v) → slice_get nodes k ≡ Some (Input i w)
    → fold count_input c (take j nodes) ≡ fold count_input c (take k nodes) → v ≡ w
counted [] c j k i v w p q e = absurd (cc)
counted (node ∷ nodes) c zero zero i v w p q e = same_width i v i w (same_node (Input i v) (Input i w) (sym p ∙ q))
counted (node ∷ nodes) c zero (suc k) i v w p q e = absurd (more_behind c i v k node nodes (same_node node (Input i v) p) e)
counted (node ∷ nodes) c (suc j) zero i v w p q e = absurd (more_behind c i w j node nodes (same_node node (Input i w) q) (sym e))
counted (node ∷ nodes) c (suc j) (suc k) i v w p q e = counted nodes (count_input c node) j k i v w p q e

pub one_width : (nodes : List Node) → IsArena nodes → (j k i v w : ℕ) → slice_get nodes j ≡ Some (Input i v) → slice_get nodes k ≡ Some (Input i w) → v ≡ w
one_width nodes arena j k i v w p q = counted nodes 0 j k i v w p q (sym (arena.inputs j i v p) ∙ arena.inputs k i w q)

-- ---- the inputs of a term are nodes

at_there : (nodes : List Node) (k : ℕ) → k < length nodes → (node : Node) × (slice_get nodes k ≡ Some node)
at_there [] k h = absurd (omega (arith, h))
at_there (node ∷ nodes) zero h = (node, refl)
at_there (node ∷ nodes) (suc k) h = at_there nodes k (omega (arith, h))

module _ (nodes : List Node) (arena : IsArena nodes) where
  abbrev IsNode : Term → Type 0
  IsNode (input i w) = (k : ℕ) × (slice_get nodes k ≡ Some (Input i w))
  IsNode (constant w n) = Unit {0}
  IsNode (apply f args w) = Unit {0}
  IsNode (not_ a) = Unit {0}
  IsNode (binary op a b) = Unit {0}
  IsNode (slice a high low) = Unit {0}
  IsNode (pick c a b) = Unit {0}

  here : (k : ℕ) (node : Node) → slice_get nodes k ≡ Some node → IsNode (made_of (term_at nodes) node)
  here k (Input i w) e = (k, e)
  here k (Constant b) e = tt
  here k (Apply f args w) e = tt
  here k (Not a) e = tt
  here k (Binary op a b) e = tt
  here k (Slice a high low) e = tt
  here k (Pick c a b) e = tt

  each_below : (n k : ℕ) → k < suc n → k < length nodes → ((p : ℕ) → p < n → p < length nodes → Each IsNode (term_at nodes p)) → (ps : List ℕ) → AllByRecursion (λ p. p < k) ps → AllByRecursion (λ p. Each IsNode (term_at nodes p)) ps
  each_below n k h l f [] b = tt
  each_below n k h l f (p ∷ ps) b = let q = b.0 in (f p (omega (arith, h, q)) (omega (arith, l, q)), each_below n k h l f ps b.1)

  up_to : (n k : ℕ) → k < n → k < length nodes → Each IsNode (term_at nodes k)
  up_to zero k h l = absurd (omega (arith, h))
  up_to (suc n) k h l =
      let at = at_there nodes k l in
      subst (Each IsNode) (sym (arena.made k at.0 at.1))
      (each-made IsNode (term_at nodes) at.0 (each_below n k h l (up_to n) (parts at.0) (recursion_from_All (λ p. p < k) (parts at.0) (arena.below k at.0 at.1))) (here k at.0 at.1))

  pub is_node : (k : ℕ) → k < length nodes → (i w : ℕ) → Mentions (term_at nodes k) i w → (j : ℕ) × (slice_get nodes j ≡ Some (Input i w))
  is_node k l i w m = in-walk IsNode (term_at nodes k) (input i w) (up_to (suc k) k (omega arith) l) m
