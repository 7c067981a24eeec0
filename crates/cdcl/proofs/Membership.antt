-- Literals of lists, and where they stand.
use Rattle.std.proofs.Common.{◌≡◌, ℕ, zero, suc, ◌<◌, ◌≤◌, ℤ, pos, Bool, true, false, not, ◌&&◌, ◌||◌, List, [], ◌∷◌, ◌++◌, length, take, refl, sym, ap, ◌∙◌, arith, ◌⊎◌, inl, inr}
use Rattle.std.proofs.lemmas.Bool.{false≢true, both_ways, or_cases, or_left, or_right, and_parts, and_from, not-true, not_from_false, false_from_ne_true, cases_order}
use Rattle.std.specs.List.{All}
use Rattle.cocoon_num.specs.Lists.{each}
use Rattle.cnf_core.specs.Literals.{Names, has_literal, opposite, same, variable}
use Rattle.cnf_core.specs.Deriving.{forces, has_no_value, is_false}
use Rattle.cnf_core.specs.Trails.{IsApart, literal_at}
use Rattle.cnf_core.proofs.LiteralFacts.{has-at, has-place, opposite-opposite, opposite-other, same-is, same-same, variable-opposite}
use Rattle.cnf_core.proofs.ClauseStatuses.{each-has}

-- ---- literals

pub opposite-same : (l m : ℤ) → opposite l ≡ opposite m → l ≡ m
opposite-same l m e = sym (opposite-opposite l) ∙ ap opposite e ∙ opposite-opposite m

-- ---- lists

pub has-take : (ts : List ℤ) (n p : ℕ) → p < n → p < length ts → has_literal (take n ts) (literal_at ts p) ≡ true
has-take [] n p less within = absurd (omega (arith, within))
has-take (t ∷ ts) zero p less within = absurd (omega (arith, less))
has-take (t ∷ ts) (suc n) zero less within = or_left (same t t) (has_literal (take n ts) t) (same-same t)
has-take (t ∷ ts) (suc n) (suc p) less within = or_right (same (literal_at ts p) t) (has_literal (take n ts) (literal_at ts p)) (has-take ts n p (omega (arith, less)) (omega (arith, within)))

pub take-place : (ts : List ℤ) (n : ℕ) (l : ℤ) → has_literal (take n ts) l ≡ true → (p : ℕ) × (p < n) × (p < length ts) × (literal_at ts p ≡ l)
take-place [] zero l h = absurd (false≢true h)
take-place [] (suc n) l h = absurd (false≢true h)
take-place (t ∷ ts) zero l h = absurd (false≢true h)
take-place (t ∷ ts) (suc n) l h = elim (or_cases (same l t) (has_literal (take n ts) l) h) [
  | inl e ↦ (0, omega arith, omega arith, sym (same-is l t e))
  | inr e ↦ let r = take-place ts n l e in (suc r.0, omega (arith, r.1), omega (arith, r.2), r.3)
]

pub has-append : (xs ys : List ℤ) (l : ℤ) → has_literal (xs ++ ys) l ≡ true → (has_literal xs l ≡ true) ⊎ (has_literal ys l ≡ true)
has-append [] ys l h = inr h
has-append (x ∷ xs) ys l h = elim (or_cases (same l x) (has_literal (xs ++ ys) l) h) [
  | inl e ↦ inl (or_left (same l x) (has_literal xs l) e)
  | inr e ↦ elim (has-append xs ys l e) [ inl f ↦ inl (or_right (same l x) (has_literal xs l) f) | inr f ↦ inr f ]
]

pub has-one : (l m : ℤ) → has_literal (m ∷ []) l ≡ true → l ≡ m
has-one l m h = elim (or_cases (same l m) false h) [ inl e ↦ same-is l m e | inr e ↦ absurd (false≢true e) ]

-- ---- tests of each

pub each-from : (f : ℤ → Bool) (ls : List ℤ) → ((l : ℤ) → has_literal ls l ≡ true → f l ≡ true) → each f ls ≡ true
each-from f [] h = refl
each-from f (l ∷ ls) h = and_from (f l) (each f ls) (h l (or_left (same l l) (has_literal ls l) (same-same l)))
    (each-from f ls (λ m e. h m (or_right (same m l) (has_literal ls m) e)))

-- ---- what a clause forces, in parts

pub record IsForced (ts ls : List ℤ) (l : ℤ) : Type 0 where
  pub within : has_literal ls l ≡ true
  pub not_true : has_literal ts l ≡ false
  pub not_false : is_false ts l ≡ false
  pub others : (m : ℤ) → has_literal ls m ≡ true → (l ≡ m) ⊎ (is_false ts m ≡ true)

pub forced-parts : (ts ls : List ℤ) (l : ℤ) → forces ts ls l ≡ true → IsForced ts ls l
forced-parts ts ls l h =
    let first = and_parts (has_literal ls l) (has_no_value ts l && each (λ m. same l m || is_false ts m) ls) h in
    let second = and_parts (has_no_value ts l) (each (λ m. same l m || is_false ts m) ls) first.1 in
    let third = and_parts (not (has_literal ts l)) (not (is_false ts l)) second.0 in
    record {
      within = first.0;
      not_true = not-true (has_literal ts l) third.0;
      not_false = not-true (is_false ts l) third.1;
      others = λ m e. elim (or_cases (same l m) (is_false ts m) (each-has (λ m. same l m || is_false ts m) ls m second.1 e)) [
        | inl is ↦ inl (same-is l m is)
        | inr off ↦ inr off
      ];
    }

pub forced-from : (ts ls : List ℤ) (l : ℤ) → IsForced ts ls l → forces ts ls l ≡ true
forced-from ts ls l f = and_from (has_literal ls l) (has_no_value ts l && each (λ m. same l m || is_false ts m) ls) f.within
    (and_from (has_no_value ts l) (each (λ m. same l m || is_false ts m) ls)
    (and_from (not (has_literal ts l)) (not (is_false ts l)) (not_from_false (has_literal ts l) f.not_true) (not_from_false (is_false ts l) f.not_false))
    (each-from (λ m. same l m || is_false ts m) ls (λ m e. elim (f.others m e) [
      | inl is ↦ or_left (same l m) (is_false ts m) (ap (same l) (sym is) ∙ same-same l)
      | inr off ↦ or_right (same l m) (is_false ts m) off
    ])))

-- ---- literals of which no variable has two

module _ (ts : List ℤ) (apart : IsApart ts) where
  pub one-place : (p q : ℕ) → p < length ts → q < length ts → variable (literal_at ts p) ≡ variable (literal_at ts q) → p ≡ q
  one-place p q h k e = elim (cases_order p q) [
    | inl is ↦ is
    | inr other ↦ elim other [
      | inl less ↦ absurd (apart p q less k e)
      | inr more ↦ absurd (apart q p more h (sym e))
    ]
  ]

  pub same-place : (p q : ℕ) → p < length ts → q < length ts → literal_at ts p ≡ literal_at ts q → p ≡ q
  same-place p q h k e = one-place p q h k (ap variable e)

  -- later literals are not among the first
  pub not-taken : (n p : ℕ) → n ≤ p → p < length ts → has_literal (take n ts) (literal_at ts p) ≡ false
  not-taken n p h k = false_from_ne_true (has_literal (take n ts) (literal_at ts p)) (λ e.
      let r = take-place ts n (literal_at ts p) e in
      omega (arith, h, r.1, same-place r.0 p r.2 k r.3))

  module _ (vars : ℕ) (named : All (Names vars) ts) where
    -- no literal stands with its opposite
    pub no-opposite : (p : ℕ) → p < length ts → has_literal ts (opposite (literal_at ts p)) ≡ false
    no-opposite p h = false_from_ne_true (has_literal ts (opposite (literal_at ts p))) (λ e.
        let r = has-place ts (opposite (literal_at ts p)) e in
        let is = one-place r.0 p r.1 h (ap variable r.2 ∙ variable-opposite (literal_at ts p)) in
        opposite-other (literal_at ts p) (named p (pos 0) h).0 (ap (literal_at ts) (sym is) ∙ r.2))

    pub no-opposite-taken : (n p : ℕ) → p < length ts → has_literal (take n ts) (opposite (literal_at ts p)) ≡ false
    no-opposite-taken n p h = false_from_ne_true (has_literal (take n ts) (opposite (literal_at ts p))) (λ e.
        let r = take-place ts n (opposite (literal_at ts p)) e in
        both_ways (has_literal ts (opposite (literal_at ts p))) (no-opposite p h) (ap (has_literal ts) (sym r.3) ∙ has-at ts r.0 r.2))
