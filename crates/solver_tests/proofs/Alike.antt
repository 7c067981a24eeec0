-- Arenas in which any two applications of a function have equal widths.
use Rattle.std.proofs.Common.{◌≡◌, ℕ, ◌<◌, List, [], ◌∷◌, length, map, Some, slice_get, get_or, refl, ap, sym, ◌∙◌, subst, arith, zero, suc}
use Rattle.std.proofs.lemmas.List.Elements.{recursion_from_All}
use Rattle.std.proofs.lemmas.Option.{slice_get-get_or}
use Rattle.bv_terms.specs.declared.node.Node.{Node}
use Rattle.bv_terms.specs.declared.node.Node.TheVariants.{Constant, Input, Apply, Not, Binary, Slice, Pick}
use Rattle.bv_terms.specs.Arenas.{IsArena, args_of, made_of, parts, term_at, width_at}
use Rattle.bv_terms.specs.TermTrees.{Args, Term, apply, arg_widths, width}
use Rattle.bv_terms.proofs.Members.{each}
use Rattle.bv_terms.proofs.Subterms.{Each, each-made, in-walk}
use Rattle.flat_laws.specs.Meant.{AppliesAlike}
use Rattle.solver_tests.specs.Plain.{AreAllAlike}

-- an application has its node
record HasNode (nodes : List Node) (f : ℕ) (args : Args) (w : ℕ) : Type 0 where
  number : ℕ
  ids : List ℕ
  there : slice_get nodes number ≡ Some (Apply f ids w)
  are : args ≡ args_of (term_at nodes) ids

abbrev IsNoted : List Node → Term → Type 0
IsNoted nodes t = (f : ℕ) (args : Args) (w : ℕ) → t ≡ apply f args w → HasNode nodes f args w

made-apply : (nodes : List Node) (k : ℕ) (n : Node) → slice_get nodes k ≡ Some n → IsNoted nodes (made_of (term_at nodes) n)
made-apply nodes k (Apply g xs v) e f args w is =
    let a : g ≡ f = cc in
    let b : v ≡ w = cc in
    let c : args_of (term_at nodes) xs ≡ args = cc in
    record { number = k; ids = xs; there = e ∙ ap (λ h. Some (Apply h xs v)) a ∙ ap (λ u. Some (Apply f xs u)) b; are = sym c }
made-apply nodes k (Input j v) e f args w is = absurd cc
made-apply nodes k (Constant b) e f args w is = absurd cc
made-apply nodes k (Not a) e f args w is = absurd cc
made-apply nodes k (Binary op a b) e f args w is = absurd cc
made-apply nodes k (Slice a high low) e f args w is = absurd cc
made-apply nodes k (Pick c a b) e f args w is = absurd cc

noted : (n : ℕ) (nodes : List Node) → IsArena nodes → (k : ℕ) → k < n → k < length nodes → Each (IsNoted nodes) (term_at nodes k)
noted zero nodes a k less l = absurd (omega arith)
noted (suc n) nodes a k less l =
    let node = get_or nodes k (Input 0 0) in
    let e : slice_get nodes k ≡ Some node = slice_get-get_or nodes k (Input 0 0) l in
    subst (Each (IsNoted nodes)) (sym (a.made k node e))
    (each-made (IsNoted nodes) (term_at nodes) node
    (each (λ p (m : p < k). noted n nodes a p (omega arith) (omega arith)) (parts node) (recursion_from_All (λ p. p < k) (parts node) (a.below k node e))) (made-apply nodes k node e))

widths-of : (f : ℕ → Term) (xs : List ℕ) → arg_widths (args_of f xs) ≡ map (λ a. width (f a)) xs
widths-of f [] = refl
widths-of f (a ∷ xs) = ap (λ ws. width (f a) ∷ ws) (widths-of f xs)

pub applied-alike : (nodes : List Node) (goal : ℕ) → IsArena nodes → goal < length nodes → AreAllAlike nodes → AppliesAlike (term_at nodes goal)
applied-alike nodes goal a l alike f v w ts us h k =
    let whole = noted (suc goal) nodes a goal (omega arith) l in
    let p = in-walk (IsNoted nodes) (term_at nodes goal) (apply f ts v) whole h f ts v refl in
    let q = in-walk (IsNoted nodes) (term_at nodes goal) (apply f us w) whole k f us w refl in
    let same = alike p.number (Apply f p.ids v) p.there q.number (Apply f q.ids w) q.there refl in (
      ap arg_widths p.are ∙ widths-of (term_at nodes) p.ids ∙ same.0 ∙ sym (widths-of (term_at nodes) q.ids) ∙ sym (ap arg_widths q.are),
      same.1,
    )
