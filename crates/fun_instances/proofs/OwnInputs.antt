-- Inputs of an arena, one by one.
use Rattle.std.proofs.Common.{◌≡◌, ℕ, zero, suc, ◌+◌, ◌<◌, List, [], ◌∷◌, ◌++◌, length, map, take, get_or, Some, refl, sym, ap, subst, ◌∙◌, arith}
use Rattle.std.specs.Prelude.{slice_get}
use Rattle.std.specs.List.{AllByRecursion, AllZip}
use Rattle.std.proofs.lemmas.List.{length-append, map-append, map_more}
use Rattle.std.proofs.lemmas.List.Elements.{All-cons, All-nil}
use Rattle.cocoon_num.specs.Tree.{Param}
use Rattle.cocoon_syntax.specs.TreeOf.{param_of}
use Rattle.cocoon_syntax.specs.declared.decl.Param.{Param as Declared}
use Rattle.cocoon_types.specs.Design.{widths_of}
use Rattle.bv_terms.specs.Arenas.{KeepsTerms, inputs_in}
use Rattle.bv_terms.specs.TermTrees.{IsWidth}
use Rattle.bv_terms.specs.declared.node.Node.{Node}
use Rattle.bv_terms.specs.declared.node.Node.TheVariants.{Input}
use Rattle.obligation_laws.specs.Shown.{HasWidth}
use Rattle.expr_terms.specs.Variables.{AreThere, terms_at}
use Rattle.fun_instances.specs.AssumptionTerms.{inputs_from}
use Rattle.fun_instances.specs.OwnInputs.{HasInputs, InputsAre, IsInputAt, IsNewInput}

-- ---- arenas that grow

get_append : {A : Type 0} (xs ys : List A) (k : ℕ) (x : A) → slice_get xs k ≡ Some x → slice_get (xs ++ ys) k ≡ Some x
get_append [] ys k x h = absurd (cc)
get_append (z ∷ xs) ys zero x h = h
get_append (z ∷ xs) ys (suc k) x h = get_append xs ys k x h

input_kept : (old new : List Node) → KeepsTerms old new → (id i w : ℕ) → IsInputAt old id i w → IsInputAt new id i w
input_kept old new k id i w h =
    let g = k.grown in
    record {
      there = subst (λ ns. id < length ns) (sym g.1) (let e = length-append old g.0 in let l = h.there in omega (arith, e, l));
      node_ = subst (λ ns. slice_get ns id ≡ Some (Input i w)) (sym g.1) (get_append old g.0 id (Input i w) h.node_);
      term = k.terms id h.there ∙ h.term;
    }

inputs_kept : (old new : List Node) → KeepsTerms old new → (i : ℕ) (ids ws : List ℕ) → InputsAre old i ids ws → InputsAre new i ids ws
inputs_kept old new k i [] [] h = tt
inputs_kept old new k i [] (w ∷ ws) h = absurd h
inputs_kept old new k i (id ∷ ids) [] h = absurd h
inputs_kept old new k i (id ∷ ids) (w ∷ ws) h = (input_kept old new k id i w h.0, inputs_kept old new k (suc i) ids ws h.1)

pub all_kept : (old new : List Node) → KeepsTerms old new → inputs_in new ≡ inputs_in old → (ids ws : List ℕ) → HasInputs old ids ws → HasInputs new ids ws
all_kept old new k e ids ws h = record { are = inputs_kept old new k 0 ids ws h.are; count = e ∙ h.count }

-- ---- one input more

from_zero : (k : ℕ) → 0 + k ≡ k
from_zero k = omega arith

inputs_more : (nodes : List Node) (i : ℕ) (ids ws : List ℕ) (id w : ℕ) → InputsAre nodes i ids ws → IsInputAt nodes id (i + length ws) w → InputsAre nodes i (ids ++ id ∷ []) (ws ++ w ∷ [])
inputs_more nodes i [] [] id w h k = (subst (λ n. IsInputAt nodes id n w) (let e : i + 0 ≡ i = omega arith in e) k, tt)
inputs_more nodes i [] (v ∷ ws) id w h k = absurd h
inputs_more nodes i (x ∷ ids) [] id w h k = absurd h
inputs_more nodes i (x ∷ ids) (v ∷ ws) id w h k =
    (h.0, inputs_more nodes (suc i) ids ws id w h.1 (subst (λ n. IsInputAt nodes id n w) (let e : i + suc (length ws) ≡ suc i + length ws = omega arith in e) k))

pub new_input : (old new : List Node) (ids ws : List ℕ) (w id : ℕ) → HasInputs old ids ws → IsNewInput old new w id → HasInputs new (ids ++ id ∷ []) (ws ++ w ∷ [])
new_input old new ids ws w id h k = record {
  are = inputs_more new 0 ids ws id w (inputs_kept old new k.kept 0 ids ws h.are) (subst (λ n. IsInputAt new id n w) (h.count ∙ sym (from_zero (length ws))) k.at);
  count = k.count ∙ ap (λ n. n + 1) h.count ∙ sym (length-append ws (w ∷ []));
}

pub no_inputs : HasInputs [] [] []
no_inputs = record { are = tt; count = refl }

-- ---- those of parameters

pub width_at_place : (ps : List Declared) → AllByRecursion IsWidth (widths_of (map param_of ps)) → (i : ℕ) (p : Declared) → i < length ps → p ≡ get_or ps i p → IsWidth (param_of p).width
width_at_place [] h i p l e = absurd (omega (arith, l))
width_at_place (q ∷ ps) h zero p l e = subst (λ x. IsWidth (param_of x).width) (sym e) h.0
width_at_place (q ∷ ps) h (suc i) p l e = width_at_place ps h.1 i p (omega (arith, l)) e

pub widths_more : (ps : List Declared) (i : ℕ) (p : Declared) → i < length ps → p ≡ get_or ps i p
    → widths_of (map param_of (take (i + 1) ps)) ≡ widths_of (map param_of (take i ps)) ++ (param_of p).width ∷ []
widths_more ps i p l e =
    ap (λ (xs : List Param). widths_of xs) (map_more param_of ps i p l ∙ ap (λ y. map param_of (take i ps) ++ param_of y ∷ []) (sym e))
    ∙ map-append (λ (q : Param). q.width) (map param_of (take i ps)) (param_of p ∷ [])

-- ---- as terms

pub inputs_there : (nodes : List Node) (i : ℕ) (ids ws : List ℕ) → InputsAre nodes i ids ws → AreThere nodes ids
inputs_there nodes i [] [] h = All-nil (λ k. k < length nodes)
inputs_there nodes i [] (w ∷ ws) h = absurd h
inputs_there nodes i (id ∷ ids) [] h = absurd h
inputs_there nodes i (id ∷ ids) (w ∷ ws) h = All-cons (λ k. k < length nodes) id ids h.0.there (inputs_there nodes (suc i) ids ws h.1)

pub inputs_terms : (nodes : List Node) (i : ℕ) (ids ws : List ℕ) → InputsAre nodes i ids ws → terms_at nodes ids ≡ inputs_from i ws
inputs_terms nodes i [] [] h = refl
inputs_terms nodes i [] (w ∷ ws) h = absurd h
inputs_terms nodes i (id ∷ ids) [] h = absurd h
inputs_terms nodes i (id ∷ ids) (w ∷ ws) h = λ j. h.0.term j ∷ inputs_terms nodes (suc i) ids ws h.1 j

pub inputs_wide : (i : ℕ) (ws : List ℕ) → AllZip HasWidth ws (inputs_from i ws)
inputs_wide i [] = tt
inputs_wide i (w ∷ ws) = (refl, inputs_wide (suc i) ws)
