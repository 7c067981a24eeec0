-- Inputs that are new, one after another.
use Rattle.std.proofs.Common.{◌≡◌, ℕ, zero, suc, ◌+◌, ◌<◌, ◌≤◌, List, [], ◌∷◌, ◌++◌, length, map, get_or, Some, refl, sym, ap, subst, ◌∙◌, arith}
use Rattle.std.specs.Prelude.{slice_get}
use Rattle.std.specs.List.{AllZip}
use Rattle.std.proofs.lemmas.List.{append_assoc, append-nil, length-append, map-append}
use Rattle.std.proofs.lemmas.List.Elements.{All-append}
use Rattle.cocoon_num.specs.Tree.{Param}
use Rattle.cocoon_types.specs.Design.{widths_of}
use Rattle.bv_terms.specs.declared.node.Node.{Node}
use Rattle.bv_terms.specs.declared.node.Node.TheVariants.{Input}
use Rattle.bv_terms.specs.Arenas.{KeepsTerms, inputs_in, term_at}
use Rattle.bv_terms.specs.TermTrees.{IsWidth}
use Rattle.bv_terms.proofs.ReplaceFacts.{keeps-both, keeps-none}
use Rattle.obligation_laws.specs.Shown.{HasWidth}
use Rattle.expr_terms.specs.Variables.{MakesAll}
use Rattle.role_values.specs.DeclaredWidths.{AllDeclared}
use Rattle.obligation_laws.specs.States.{NewInput, input_term, inputs_from}
use Rattle.symbolic_runs.proofs.Growing.{one_all}
use Rattle.obligation_gen.specs.ShownTrees.{HasInput, ShowsInputs}
use Rattle.obligation_gen.proofs.Growing.{inputs_on, makes_all_on}

pub count_is : (first : ℕ) (ws : List ℕ) → length (inputs_from first ws) ≡ length ws
count_is first [] = refl
count_is first (w ∷ ws) = ap suc (count_is (suc first) ws)

pub inputs_wide : (first : ℕ) (ws : List ℕ) → AllZip HasWidth ws (map input_term (inputs_from first ws))
inputs_wide first [] = tt
inputs_wide first (w ∷ ws) = (refl, inputs_wide (suc first) ws)

abbrev next_of : ℕ → ℕ → NewInput
next_of n w = record { number = n; width = w }

from_more : (first : ℕ) (vs : List ℕ) (w : ℕ) → inputs_from first (vs ++ w ∷ []) ≡ inputs_from first vs ++ next_of (first + length vs) w ∷ []
from_more first [] w = λ j. next_of (let e : first ≡ first + 0 = omega arith in e j) w ∷ []
from_more first (v ∷ vs) w =
    let e : suc first + length vs ≡ first + suc (length vs) = omega arith in
    ap (λ is. next_of first v ∷ is) (from_more (suc first) vs w) ∙ (λ j. next_of first v ∷ (inputs_from (suc first) vs ++ next_of (e j) w ∷ []))

-- inputs of some widths were made, and those of others are still to come
pub record Made (old now : List Node) (numbers terms left all : List ℕ) : Type 0 where
  pub kept : KeepsTerms old now
  pub done : List ℕ
  pub are : done ++ left ≡ all
  pub wide : AllDeclared left
  pub numbers_ : ShowsInputs now numbers (inputs_from (inputs_in old) done)
  pub terms_ : MakesAll now terms (map input_term (inputs_from (inputs_in old) done))
  pub next : inputs_in now ≡ inputs_in old + length done

pub none_made : (old : List Node) (all : List ℕ) → AllDeclared all → Made old old [] [] all all
none_made old all wide = record {
  kept = keeps-none old;
  done = [];
  are = refl;
  wide = wide;
  numbers_ = record { numbers_ = refl; there = λ k d l. absurd (omega (arith, l)) };
  terms_ = record { there = λ k d l. absurd (omega (arith, l)); terms = refl };
  next = omega arith;
}

pub first_wide : (old now : List Node) (numbers terms left all rest : List ℕ) (w : ℕ) → left ≡ w ∷ rest → Made old now numbers terms left all → IsWidth w
first_wide old now numbers terms left all rest w is m = let h : AllDeclared (w ∷ rest) = subst AllDeclared is m.wide in (h.0, omega (arith, h.1))

-- one input more
pub one_made : (old now new : List Node) (numbers terms left all rest : List ℕ) (w id : ℕ) → left ≡ w ∷ rest → KeepsTerms now new
    → Made old now numbers terms left all → slice_get new id ≡ Some (Input (inputs_in now) w) → id < length new → term_at new id ≡ input_term (next_of (inputs_in now) w) → inputs_in new ≡ inputs_in now + 1
    → Made old new (numbers ++ inputs_in now ∷ []) (terms ++ id ∷ []) rest all
one_made old now new numbers terms left all rest w id is step m node there term next =
    let first = inputs_in old in
    let done = m.done in
    let i = next_of (inputs_in now) w in
    let grown : inputs_from first (done ++ w ∷ []) ≡ inputs_from first done ++ i ∷ [] = from_more first done w ∙ (λ j. inputs_from first done ++ next_of (sym m.next j) w ∷ []) in
    let before = inputs_on now new numbers (inputs_from first done) step m.numbers_ in
    let made = makes_all_on now new terms (map input_term (inputs_from first done)) step m.terms_ in
    let h : AllDeclared (w ∷ rest) = subst AllDeclared is m.wide in
    record {
      kept = keeps-both old now new m.kept step;
      done = done ++ w ∷ [];
      are = append_assoc done (w ∷ []) rest ∙ ap (λ xs. done ++ xs) (sym is) ∙ m.are;
      wide = h.2;
      numbers_ = subst (ShowsInputs new (numbers ++ inputs_in now ∷ [])) (sym grown) (record {
        numbers_ = ap (λ ns. ns ++ inputs_in now ∷ []) before.numbers_ ∙ sym (map-append (λ (x : NewInput). x.number) (inputs_from first done) (i ∷ []));
        there = All-append (HasInput new) (inputs_from first done) (i ∷ []) before.there (one_all (HasInput new) i (id, node));
      });
      terms_ = subst (λ is. MakesAll new (terms ++ id ∷ []) (map input_term is)) (sym grown) (record {
        there = All-append (λ k. k < length new) terms (id ∷ []) made.there (one_all (λ k. k < length new) id there);
        terms = map-append (term_at new) terms (id ∷ []) ∙ (λ j. made.terms j ++ term j ∷ []) ∙ sym (map-append input_term (inputs_from first done) (i ∷ []));
      });
      next = let e = length-append done (w ∷ []) in omega (arith, e, m.next, next);
    }

pub all_made : (old now : List Node) (numbers terms all left : List ℕ) → left ≡ [] → Made old now numbers terms left all
    → ShowsInputs now numbers (inputs_from (inputs_in old) all) × MakesAll now terms (map input_term (inputs_from (inputs_in old) all)) × (inputs_in now ≡ inputs_in old + length all)
all_made old now numbers terms all left is m =
    let e : m.done ≡ all = sym (append-nil m.done) ∙ ap (λ xs. m.done ++ xs) (sym is) ∙ m.are in (
      subst (λ ws. ShowsInputs now numbers (inputs_from (inputs_in old) ws)) e m.numbers_,
      subst (λ ws. MakesAll now terms (map input_term (inputs_from (inputs_in old) ws))) e m.terms_,
      m.next ∙ ap (λ ws. inputs_in old + length ws) e,
    )

-- ---- widths

pub declared_at : {A : Type 0} (f : A → Param) (xs : List A) (i : ℕ) (x : A) → AllDeclared (widths_of (map f xs)) → i < length xs → x ≡ get_or xs i x → (f x).width ≤ 64
declared_at f [] i x h l e = absurd (omega (arith, l))
declared_at f (y ∷ ys) zero x h l e = subst (λ z. (f z).width ≤ 64) (sym e) h.1
declared_at f (y ∷ ys) (suc i) x h l e = declared_at f ys i x h.2 (omega (arith, l)) e
