-- Rows that compare all bits, and what is said of pairs in a list.
use Rattle.std.proofs.Common.{◌≡◌, ℕ, ◌-◌, ◌^◌, ◌<◌, ◌==◌, ◌||◌, bit_and, Bool, true, false, List, [], ◌∷◌, ◌++◌, map, refl, sym, subst, ◌∙◌, inl, inr}
use Rattle.std.specs.Prelude.{filter, not}
use Rattle.std.specs.List.{AllByRecursion, AllZip}
use Rattle.std.proofs.Math.Nat.{mod-eq_of_lt}
use Rattle.std.proofs.lemmas.Nat.{and_mask}
use Rattle.std.proofs.lemmas.Bool.{and_from, and_parts, cases_Bool, cond-true, cond-false, eq-eqb, eqb-true, false≢true}
use Rattle.cocoon_num.specs.Rows.{has_bits, values_match}
use Rattle.cocoon_num.specs.Values.{FitsWidth}
use Rattle.bv_terms.specs.TermTrees.{Term}
use Rattle.flat_laws.specs.Flat.{agreement, agreements, agreements_with, same_function}
use Rattle.flat_laws.proofs.Values.{same_numbers}

kept : (w n : ℕ) → n < 2 ^ w → bit_and n (2 ^ w - 1) ≡ n
kept w n h = and_mask n w ∙ mod-eq_of_lt h

pub match-itself : (ws ns : List ℕ) → AllZip FitsWidth ws ns → values_match ns (map (λ w. 2 ^ w - 1) ws) ns ≡ true
match-itself [] [] h = refl
match-itself [] (n ∷ ns) h = absurd h
match-itself (w ∷ ws) [] h = absurd h
match-itself (w ∷ ws) (n ∷ ns) h =
    and_from (has_bits n (2 ^ w - 1) n) (values_match ns (map (λ w. 2 ^ w - 1) ws) ns) (eq-eqb (bit_and n (2 ^ w - 1)) (bit_and n (2 ^ w - 1)) refl) (match-itself ws ns h.1)

pub match-same : (ws ns xs : List ℕ) → AllZip FitsWidth ws ns → AllZip FitsWidth ws xs → values_match ns (map (λ w. 2 ^ w - 1) ws) xs ≡ true → ns ≡ xs
match-same [] [] [] h k m = refl
match-same [] [] (x ∷ xs) h k m = absurd k
match-same [] (n ∷ ns) xs h k m = absurd h
match-same (w ∷ ws) [] xs h k m = absurd h
match-same (w ∷ ws) (n ∷ ns) [] h k m = absurd k
match-same (w ∷ ws) (n ∷ ns) (x ∷ xs) h k m =
    let p = and_parts (has_bits n (2 ^ w - 1) x) (values_match ns (map (λ w. 2 ^ w - 1) ws) xs) m in
    let e : n ≡ x = sym (kept w n h.0) ∙ sym (eqb-true (bit_and x (2 ^ w - 1)) (bit_and n (2 ^ w - 1)) p.0) ∙ kept w x k.0 in
    let d = match-same ws ns xs h.1 k.1 p.1 in
    cc

pub same-refl : (ns : List ℕ) → same_numbers ns ns ≡ true
same-refl [] = refl
same-refl (n ∷ ns) = and_from (n == n) (same_numbers ns ns) (eq-eqb n n refl) (same-refl ns)

pub first-true : (a b : Bool) → (not a || b) ≡ true → a ≡ true → b ≡ true
first-true true b h k = h
first-true false b h k = absurd (false≢true k)

-- ---- lists

all-front : (Q : Term → Type 0) (xs ys : List Term) → AllByRecursion Q (xs ++ ys) → AllByRecursion Q xs
all-front Q [] ys h = tt
all-front Q (x ∷ xs) ys h = (h.0, all-front Q xs ys h.1)

all-back : (Q : Term → Type 0) (xs ys : List Term) → AllByRecursion Q (xs ++ ys) → AllByRecursion Q ys
all-back Q [] ys h = h
all-back Q (x ∷ xs) ys h = all-back Q xs ys h.1

all-weaker : (P Q : Term → Type 0) → ((t : Term) → P t → Q t) → (ts : List Term) → AllByRecursion P ts → AllByRecursion Q ts
all-weaker P Q f [] h = tt
all-weaker P Q f (t ∷ ts) h = (f t h.0, all-weaker P Q f ts h.1)

all-unfiltered : (p : Term → Bool) (Q : Term → Type 0) (f : Term → Term) (ts : List Term) → AllByRecursion Q (map f (filter p ts)) → AllByRecursion (λ t. p t ≡ true → Q (f t)) ts
all-unfiltered p Q f [] h = tt
all-unfiltered p Q f (t ∷ ts) h = elim (cases_Bool (p t)) [
  | inl e ↦
      let k : AllByRecursion Q (map f (t ∷ filter p ts)) = subst (λ us. AllByRecursion Q (map f us)) (cond-true (p t) (t ∷ filter p ts) (filter p ts) e) h in
      (λ _. k.0, all-unfiltered p Q f ts k.1)
  | inr e ↦ (
    λ d. absurd (false≢true (sym e ∙ d)),
    all-unfiltered p Q f ts (subst (λ us. AllByRecursion Q (map f us)) (cond-false (p t) (t ∷ filter p ts) (filter p ts) e) h),
  )
]

-- ---- each of a list and each later one of the same function

abbrev pub Pairs : (Term → Term → Type 0) → List Term → Type 0
Pairs R [] = Unit {0}
Pairs R (t ∷ ts) = AllByRecursion (λ u. same_function t u ≡ true → R t u) ts × Pairs R ts

module _ (applied : List Term) (first : ℕ) (Q : Term → Type 0) where
  abbrev Agree : Term → Term → Type 0
  Agree u t = same_function t u ≡ true → Q (agreement applied first t u)

  pairs-from : (earlier rest : List Term) → AllByRecursion Q (agreements applied first earlier rest)
      → AllByRecursion (λ u. AllByRecursion (Agree u) earlier) rest × Pairs (λ t u. Q (agreement applied first t u)) rest
  pairs-from earlier [] h = (tt, tt)
  pairs-from earlier (u ∷ us) h =
      let own = agreements_with applied first earlier u in
      let others = agreements applied first (earlier ++ u ∷ []) us in
      let r = pairs-from (earlier ++ u ∷ []) us (all-back Q own others h) in (
        (
          all-unfiltered (λ t. same_function t u) Q (λ t. agreement applied first t u) earlier (all-front Q own others h),
          all-weaker (λ v. AllByRecursion (Agree v) (earlier ++ u ∷ [])) (λ v. AllByRecursion (Agree v) earlier) (λ v k. all-front (Agree v) earlier (u ∷ []) k) us r.0,
        ),
        (
          all-weaker (λ v. AllByRecursion (Agree v) (earlier ++ u ∷ [])) (λ v. Agree v u) (λ v k. (all-back (Agree v) earlier (u ∷ []) k).0) us r.0,
          r.1,
        ),
      )

  pub pairs-of : (ts : List Term) → AllByRecursion Q (agreements applied first [] ts) → Pairs (λ t u. Q (agreement applied first t u)) ts
  pairs-of ts h = (pairs-from [] ts h).1
