-- A term in an arena of its own.
use Rattle.std.proofs.Common.{◌≡◌, inl, inr, ℕ, suc, ◌==◌, ◌<◌, ◌&&◌, List, [], ◌∷◌, length, map, true, Option, Some, None, if◌then◌else◌, refl, sym, ap, subst, ◌∙◌, arith}
use Rattle.std.specs.Prelude.{slice_get}
use Rattle.std.proofs.lemmas.Bool.{and_parts, cases_Bool, cond-true, cond-false, eqb-true, eq-eqb, false≢true, or_cases, or_left, or_right}
use Rattle.cocoon_num.specs.Tree.{Design}
use Rattle.cocoon_num.specs.Values.{number, apply_unary, apply_slice, flip}
use Rattle.bv_terms.specs.Inputs.{Mentions, renamed, renamed_args}
use Rattle.bv_terms.specs.TermTrees.{Term, Args, constant, input, apply, not_, binary, slice, pick, no_args, arg, arg_widths, joined_width, width}
use Rattle.bv_terms.specs.TermValues.{Functions, Inputs, arg_numbers, number_in, operated, term_number, term_value}
use Rattle.bv_terms.specs.Walks.{is_among, same_term, walk}
use Rattle.bv_terms.proofs.Subterms.{Each, EachArg}
use Rattle.query_laws.specs.Over.{AreOver, IsOver, IsRuntimeAt}
use Rattle.query_laws.specs.LeafTerms.{any_input}
use Rattle.sound_types.proofs.Members.{In}
use Rattle.bv_terms.specs.Copies.{index_in, new_name}

-- ---- names

pub index_there : (xs : List ℕ) (i : ℕ) → In i xs → slice_get xs (index_in xs i) ≡ Some i
index_there [] i h = absurd h
index_there (x ∷ xs) i h = elim (cases_Bool (x == i)) [
  | inl t ↦ ap (slice_get (x ∷ xs)) (cond-true (x == i) 0 (suc (index_in xs i)) t) ∙ ap Some (eqb-true x i t)
  | inr f ↦ ap (slice_get (x ∷ xs)) (cond-false (x == i) 0 (suc (index_in xs i)) f) ∙ elim h [
    | inl e ↦ absurd (false≢true (sym f ∙ eq-eqb x i (sym e)))
    | inr k ↦ index_there xs i k
  ]
]

pub index_below : (xs : List ℕ) (i : ℕ) → In i xs → index_in xs i < length xs
index_below [] i h = absurd h
index_below (x ∷ xs) i h = elim (cases_Bool (x == i)) [
  | inl t ↦ let e = cond-true (x == i) 0 (suc (index_in xs i)) t in omega (arith, e)
  | inr f ↦
      let e = cond-false (x == i) 0 (suc (index_in xs i)) f in
      let l : index_in xs i < length xs = elim h [ inl q ↦ absurd (false≢true (sym f ∙ eq-eqb x i (sym q))) | inr k ↦ index_below xs i k ] in
      omega (arith, e, l)
]

pub from_zero : (inputs : List ℕ) (i : ℕ) → new_name 0 inputs i ≡ index_in inputs i
from_zero inputs i = omega arith

-- what inputs the names stand for
abbrev pub behind_names : Inputs → List ℕ → Inputs
behind_names ins inputs j = elim (slice_get inputs j) [ None ↦ 0 | Some i ↦ ins i ]

pub behind_name : (ins : Inputs) (inputs : List ℕ) (i : ℕ) → In i inputs → behind_names ins inputs (new_name 0 inputs i) ≡ ins i
behind_name ins inputs i h =
    ap (behind_names ins inputs) (from_zero inputs i) ∙ ap (λ (o : Option ℕ). elim o as (λ x. ℕ) [ None ↦ 0 | Some j ↦ ins j ]) (index_there inputs i h)

-- ---- renamed terms

module _ (name : ℕ → ℕ) where
  mutual
    pub renamed_width : (t : Term) → width (renamed name t) ≡ width t
    renamed_width (constant w n) = refl
    renamed_width (input i w) = refl
    renamed_width (apply f args w) = refl
    renamed_width (not_ a) = renamed_width a
    renamed_width (binary op a b) = λ k. joined_width op (renamed_width a k) (renamed_width b k)
    renamed_width (slice a high low) = refl
    renamed_width (pick c a b) = renamed_width a

    renamed_widths : (ts : Args) → arg_widths (renamed_args name ts) ≡ arg_widths ts
    renamed_widths no_args = refl
    renamed_widths (arg t ts) = λ k. renamed_width t k ∷ renamed_widths ts k

  module _ (d : Design) where
    mutual
      pub renamed_over : (t : Term) → IsOver d any_input t → IsOver d any_input (renamed name t)
      renamed_over (constant w n) h = tt
      renamed_over (input i w) h = refl
      renamed_over (apply f args w) h = (renamed_all_over args h.0, subst (λ ws. IsRuntimeAt d f ws w) (sym (renamed_widths args)) h.1)
      renamed_over (not_ a) h = renamed_over a h
      renamed_over (binary op a b) h = (renamed_over a h.0, renamed_over b h.1)
      renamed_over (slice a high low) h = renamed_over a h
      renamed_over (pick c a b) h = (renamed_over c h.0, renamed_over a h.1, renamed_over b h.2)

      renamed_all_over : (ts : Args) → AreOver d any_input ts → AreOver d any_input (renamed_args name ts)
      renamed_all_over no_args h = tt
      renamed_all_over (arg t ts) h = (renamed_over t h.0, renamed_all_over ts h.1)

  -- ---- its inputs

  abbrev Behind : List Term → (j w : ℕ) → Type 0
  Behind ts j w = (i : ℕ) × (j ≡ name i) × (is_among ts (input i w) ≡ true)

  one_input : (u : Term) (j w : ℕ) → same_term (renamed name u) (input j w) ≡ true → (i : ℕ) × (j ≡ name i) × (u ≡ input i w)
  one_input (input i v) j w h = let p = and_parts (name i == j) (v == w) h in (i, sym (eqb-true (name i) j p.0), ap (input i) (eqb-true v w p.1))
  one_input (constant v n) j w h = absurd (false≢true h)
  one_input (apply f args v) j w h = absurd (false≢true h)
  one_input (not_ a) j w h = absurd (false≢true h)
  one_input (binary op a b) j w h = absurd (false≢true h)
  one_input (slice a high low) j w h = absurd (false≢true h)
  one_input (pick c a b) j w h = absurd (false≢true h)

  among_renamed : (ts : List Term) (j w : ℕ) → is_among (map (renamed name) ts) (input j w) ≡ true → Behind ts j w
  among_renamed [] j w h = absurd (false≢true h)
  among_renamed (u ∷ us) j w h = elim (or_cases (same_term (renamed name u) (input j w)) (is_among (map (renamed name) us) (input j w)) h) [
    | inl s ↦
        let q = one_input u j w s in
        (q.0, q.1, or_left (same_term u (input q.0 w)) (is_among us (input q.0 w)) (subst (λ x. same_term x (input q.0 w) ≡ true) (sym q.2) (same_self q.0 w)))
    | inr r ↦ let q = among_renamed us j w r in (q.0, q.1, or_right (same_term u (input q.0 w)) (is_among us (input q.0 w)) q.2)
  ]
    where
      same_self : (i w : ℕ) → same_term (input i w) (input i w) ≡ true
      same_self i w = (λ k. eq-eqb i i refl k && eq-eqb w w refl k)

  pub mentioned_behind : (t : Term) → walk (renamed name t) [] ≡ map (renamed name) (walk t []) → (j w : ℕ) → Mentions (renamed name t) j w → (i : ℕ) × (j ≡ name i) × Mentions t i w
  mentioned_behind t e j w m = among_renamed (walk t []) j w (subst (λ us. is_among us (input j w) ≡ true) e m)

-- ---- values depend on the inputs of a term alone

module _ (P : Term → Type 0) (F : Functions) (f g : Inputs) (same : (i w : ℕ) → P (input i w) → f i ≡ g i) where
  mutual
    pub value_agrees : (t : Term) → Each P t → term_value F f t ≡ term_value F g t
    value_agrees (constant w n) h = refl
    value_agrees (input i w) h = ap (number w) (same i w h)
    value_agrees (apply x args w) h = ap (λ ns. number w (F x ns)) (numbers_agree args h.0)
    value_agrees (not_ a) h = ap (λ v. term_number (apply_unary flip v)) (value_agrees a h.0)
    value_agrees (binary op a b) h = λ k. operated op (value_agrees a h.0 k) (value_agrees b h.1 k)
    value_agrees (slice a high low) h = ap (λ v. term_number (apply_slice v high low)) (value_agrees a h.0)
    value_agrees (pick c a b) h = λ k. if number_in (value_agrees c h.0 k) == 1 then value_agrees a h.1 k else value_agrees b h.2 k

    numbers_agree : (ts : Args) → EachArg P ts → arg_numbers F f ts ≡ arg_numbers F g ts
    numbers_agree no_args h = refl
    numbers_agree (arg t ts) h = λ k. number_in (value_agrees t h.0 k) ∷ numbers_agree ts h.1 k
