-- Values of terms with other terms in the place of their inputs.
use Rattle.std.proofs.Common.{◌≡◌, ℕ, suc, ◌<◌, ◌^◌, ◌==◌, List, [], ◌∷◌, ◌++◌, map, false, Option, Some, None, if◌then◌else◌, refl, sym, ap, subst, ◌∙◌, arith}
use Rattle.std.specs.Prelude.{unwrap_or}
use Rattle.cocoon_num.specs.Sorts.{bits_sort}
use Rattle.cocoon_num.specs.Values.{Value, number, truth, apply_slice, apply_unary, flip}
use Rattle.bv_terms.specs.Replacements.{Replacing, beside, replaced, replaced_args}
use Rattle.bv_terms.specs.TermTrees as term
use Rattle.bv_terms.specs.TermTrees.{Term, Args, no_args, arg}
use Rattle.bv_terms.specs.TermValues.{Functions, Inputs, arg_numbers, number_in, operated, term_number, term_value}
use Rattle.sound_types.specs.Matching.{IsOfSort}
use Rattle.sound_types.proofs.Options.{same_self}
use Rattle.obligation_laws.specs.Shown.{HasNumber, numbers_of}
use Rattle.obligation_laws.specs.LeafForms.{Ascend}
use Rattle.obligation_laws.specs.Meant.{AllFit, given}
use Rattle.obligation_laws.specs.States.{NewInput}
use Rattle.obligation_laws.specs.MadeOf.{Have, Made, MadeArgs, OfInputs}

pub of_width : (w : ℕ) (v : Value) → IsOfSort (bits_sort w) v → v ≡ number w (number_in v)
of_width w (number x n) h = ap (λ u. number u n) h.0
of_width w (truth b) h = absurd h

-- the values of what stands for the inputs
abbrev pub values_of : Functions → Inputs → Replacing → Inputs
values_of F ins r i = elim (r i) [ None ↦ ins i | Some t ↦ number_in (term_value F ins t) ]

-- a term stands for the input, and something holds of its width and the term
abbrev pub Standing : Replacing → (ℕ → Term → Type 0) → OfInputs
Standing r R i w = (t : Term) × (r i ≡ Some t) × R w t

module _ (F : Functions) (ins : Inputs) (r : Replacing) where
  value_at : (i : ℕ) (t : Term) → r i ≡ Some t → values_of F ins r i ≡ number_in (term_value F ins t)
  value_at i t e = ap (λ (o : Option Term). elim o as (λ x. ℕ) [ None ↦ ins i | Some u ↦ number_in (term_value F ins u) ]) e

  mutual
    -- the value of the term, where its inputs have these values
    pub replaced_value : (t : Term) → Made (Standing r (HasNumber F ins)) t → term_value F ins (replaced r t) ≡ term_value F (values_of F ins r) t
    replaced_value (term.constant w n) h = refl
    replaced_value (term.input i w) h =
        ap (λ (o : Option Term). term_value F ins (unwrap_or o (term.input i w))) h.1
        ∙ of_width w (term_value F ins h.0) h.2
        ∙ ap (number w) (sym (value_at i h.0 h.1))
    replaced_value (term.apply f args w) h = ap (λ ns. number w (F f ns)) (replaced_numbers args h)
    replaced_value (term.not_ a) h = ap (λ v. term_number (apply_unary flip v)) (replaced_value a h)
    replaced_value (term.binary op a b) h = λ k. operated op (replaced_value a h.0 k) (replaced_value b h.1 k)
    replaced_value (term.slice a high low) h = ap (λ v. term_number (apply_slice v high low)) (replaced_value a h)
    replaced_value (term.pick c a b) h = λ k. if number_in (replaced_value c h.0 k) == 1 then replaced_value a h.1 k else replaced_value b h.2 k

    replaced_numbers : (ts : Args) → MadeArgs (Standing r (HasNumber F ins)) ts → arg_numbers F ins (replaced_args r ts) ≡ arg_numbers F (values_of F ins r) ts
    replaced_numbers no_args h = refl
    replaced_numbers (arg t ts) h = λ k. number_in (replaced_value t h.0 k) ∷ replaced_numbers ts h.1 k

-- what the term with its inputs replaced is made of
module _ (P : OfInputs) (r : Replacing) where
  mutual
    pub replaced_made : (t : Term) → Made (Standing r (λ w u. Made P u)) t → Made P (replaced r t)
    replaced_made (term.constant w n) h = tt
    replaced_made (term.input i w) h = subst (λ (o : Option Term). Made P (unwrap_or o (term.input i w))) (sym h.1) h.2
    replaced_made (term.apply f args w) h = replaced_args_made args h
    replaced_made (term.not_ a) h = replaced_made a h
    replaced_made (term.binary op a b) h = (replaced_made a h.0, replaced_made b h.1)
    replaced_made (term.slice a high low) h = replaced_made a h
    replaced_made (term.pick c a b) h = (replaced_made c h.0, replaced_made a h.1, replaced_made b h.2)

    replaced_args_made : (ts : Args) → MadeArgs (Standing r (λ w u. Made P u)) ts → MadeArgs P (replaced_args r ts)
    replaced_args_made no_args h = tt
    replaced_args_made (arg t ts) h = (replaced_made t h.0, replaced_args_made ts h.1)

-- ---- terms beside inputs

abbrev pub Pairs : (NewInput → Term → Type 0) → List NewInput → List Term → Type 0
Pairs R [] [] = Unit {0}
Pairs R [] (t ∷ ts) = ⊥
Pairs R (i ∷ is) [] = ⊥
Pairs R (i ∷ is) (t ∷ ts) = R i t × Pairs R is ts

pub pairs_join : (R : NewInput → Term → Type 0) (is : List NewInput) (ts : List Term) (js : List NewInput) (us : List Term) → Pairs R is ts → Pairs R js us → Pairs R (is ++ js) (ts ++ us)
pairs_join R [] [] js us h k = k
pairs_join R [] (t ∷ ts) js us h k = absurd h
pairs_join R (i ∷ is) [] js us h k = absurd h
pairs_join R (i ∷ is) (t ∷ ts) js us h k = (h.0, pairs_join R is ts js us h.1 k)

pub pairs_weaker : (R S : NewInput → Term → Type 0) → ((i : NewInput) (t : Term) → R i t → S i t) → (is : List NewInput) (ts : List Term) → Pairs R is ts → Pairs S is ts
pairs_weaker R S f [] [] h = tt
pairs_weaker R S f [] (t ∷ ts) h = absurd h
pairs_weaker R S f (i ∷ is) [] h = absurd h
pairs_weaker R S f (i ∷ is) (t ∷ ts) h = (f i t h.0, pairs_weaker R S f is ts h.1)

-- pairs of two joined lists, the first of which are as long
pub pairs_split : (R S : NewInput → Term → Type 0) (is : List NewInput) (ts : List Term) (js : List NewInput) (us : List Term) → Pairs S is ts → Pairs R (is ++ js) (ts ++ us) → Pairs R is ts × Pairs R js us
pairs_split R S [] [] js us s h = (tt, h)
pairs_split R S [] (t ∷ ts) js us s h = absurd s
pairs_split R S (i ∷ is) [] js us s h = absurd s
pairs_split R S (i ∷ is) (t ∷ ts) js us s h = let r = pairs_split R S is ts js us s.1 h.1 in ((h.0, r.0), r.1)

abbrev pub numbers_in : List NewInput → List ℕ
numbers_in is = map (λ (i : NewInput). i.number) is

not_before : (m n : ℕ) → m < n → (m == n) ≡ false
not_before m n l = grind (arith, l)

-- one more in front, with a smaller number
pairs_behind : (n : ℕ) (t : Term) (ns : List ℕ) (ts : List Term) (first last : ℕ) (js : List NewInput) (us : List Term) → n < first → Ascend first last js
    → Pairs (λ j u. beside ns ts j.number ≡ Some u) js us → Pairs (λ j u. beside (n ∷ ns) (t ∷ ts) j.number ≡ Some u) js us
pairs_behind n t ns ts first last [] [] l a h = tt
pairs_behind n t ns ts first last [] (u ∷ us) l a h = absurd h
pairs_behind n t ns ts first last (j ∷ js) [] l a h = absurd h
pairs_behind n t ns ts first last (j ∷ js) (u ∷ us) l a h = (
  ap (λ b. if b then Some t else beside ns ts j.number) (not_before n j.number (let k = a.0 in omega (arith, l, k))) ∙ h.0,
  pairs_behind n t ns ts (suc j.number) last js us (let k = a.0 in omega (arith, l, k)) a.1 h.1,
)

-- beside each input stands its term
pub beside_pairs : (R : NewInput → Term → Type 0) (first last : ℕ) (is : List NewInput) (ts : List Term) → Ascend first last is → Pairs R is ts → Pairs (λ i t. beside (numbers_in is) ts i.number ≡ Some t) is ts
beside_pairs R first last [] [] a h = tt
beside_pairs R first last [] (t ∷ ts) a h = absurd h
beside_pairs R first last (i ∷ is) [] a h = absurd h
beside_pairs R first last (i ∷ is) (t ∷ ts) a h = (
  ap (λ b. if b then Some t else beside (numbers_in is) ts i.number) (same_self i.number),
  pairs_behind i.number t (numbers_in is) ts (suc i.number) last is ts (omega arith) a.1 (beside_pairs R (suc i.number) last is ts a.1 h.1),
)

pub pairs_stand : (R : ℕ → Term → Type 0) (r : Replacing) (is : List NewInput) (ts : List Term) → Pairs (λ i t. r i.number ≡ Some t) is ts → Pairs (λ i t. R i.width t) is ts → Have (Standing r R) is
pairs_stand R r [] [] h k = tt
pairs_stand R r [] (t ∷ ts) h k = absurd h
pairs_stand R r (i ∷ is) [] h k = absurd h
pairs_stand R r (i ∷ is) (t ∷ ts) h k = ((t, h.0, k.0), pairs_stand R r is ts h.1 k.1)

module _ (F : Functions) (ins : Inputs) (r : Replacing) where
  -- the numbers of the inputs are those of the terms beside them
  pub pairs_given : (is : List NewInput) (ts : List Term) → Pairs (λ i t. r i.number ≡ Some t) is ts → given (values_of F ins r) is ≡ numbers_of F ins ts
  pairs_given [] [] h = refl
  pairs_given [] (t ∷ ts) h = absurd h
  pairs_given (i ∷ is) [] h = absurd h
  pairs_given (i ∷ is) (t ∷ ts) h = λ k. value_at F ins r i.number t h.0 k ∷ pairs_given is ts h.1 k

  below : (w : ℕ) (v : Value) → IsOfSort (bits_sort w) v → number_in v < 2 ^ w
  below w (number x n) h = h.1
  below w (truth b) h = absurd h

  pub standing_fit : (is : List NewInput) → Have (Standing r (HasNumber F ins)) is → AllFit (values_of F ins r) is
  standing_fit [] h = tt
  standing_fit (i ∷ is) h = (subst (λ n. n < 2 ^ i.width) (sym (value_at F ins r i.number h.0.0 h.0.1)) (below i.width (term_value F ins h.0.0) h.0.2), standing_fit is h.1)
