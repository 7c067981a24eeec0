-- Progress is no longer than there are tuples of values: each instance has a number of its own.
use Rattle.std.proofs.Common.{◌≡◌, ◌≢◌, ℕ, zero, suc, ◌+◌, ◌*◌, ◌%◌, ◌^◌, ◌<◌, ◌≤◌, true, false, List, [], ◌∷◌, fold, length, map, eqb, slice_get, Some, refl, sym, ap, subst, ◌∙◌, arith, inl, inr}
use Rattle.std.specs.List.{AllByRecursion, IsDistinct, list_any, sum}
use Rattle.std.proofs.Math.Nat.{le_of_mul-le-mul_left, mod-eq_of_lt, mul-add-mod_self_left, mul-le-mul_left}
use Rattle.std.proofs.lemmas.Bool.{cases_Bool, eqb-true, or_cases, false≢true}
use Rattle.std.proofs.lemmas.Map.Steps.{length-le_from_distinct_below}
use Rattle.std.proofs.lemmas.Nat.{pow_pos}
use Rattle.cocoon_num.specs.PacketForms.{FieldsFit}
use Rattle.cocoon_num.specs.Tree.{AssumeDecl, Design}
use Rattle.cocoon_resolve.specs.Readers.{all_assumptions, assumptions_to}
use Rattle.cocoon_types.specs.Design.{widths_of}
use Rattle.cnf_core.specs.declared.certificates.Instance.{Instance}
use Rattle.query_laws.specs.Queries.{Fits}
use Rattle.query_laws.specs.Rounds.{AreDifferent, tuples_of, tuples_of_widths, tuples_to}

-- ---- a number and a rest

same-product : (p a b m n : ℕ) → p * a + m ≡ p * b + n → m ≡ n → p * a ≡ p * b
same-product p a b m n e r = take-away (p * a) (p * b) m n e r
  where
    take-away : (x y m n : ℕ) → x + m ≡ y + n → m ≡ n → x ≡ y
    take-away x y m n e r = omega (arith, e, r)

same-factor : (p a b : ℕ) → 0 < p → p * a ≡ p * b → a ≡ b
same-factor p a b z e =
    let le : a ≤ b = le_of_mul-le-mul_left (up-to (p * a) (p * b) e) z in
    let ge : b ≤ a = le_of_mul-le-mul_left (up-to (p * b) (p * a) (sym e)) z in
    omega (arith, le, ge)
  where
    up-to : (x y : ℕ) → x ≡ y → x ≤ y
    up-to x y e = omega (arith, e)

split-number : (p a b m n : ℕ) → 0 < p → m < p → n < p → p * a + m ≡ p * b + n → (a ≡ b) × (m ≡ n)
split-number p a b m n z h k e =
    let r : m ≡ n = sym (mod-eq_of_lt h) ∙ sym (mul-add-mod_self_left p a m) ∙ ap (λ x. x % p) e ∙ mul-add-mod_self_left p b n ∙ mod-eq_of_lt k in
    (same-factor p a b z (same-product p a b m n e r), r)

below : (p c t n : ℕ) → n < p → c < t → p * c + n < p * t
below p c t n h k =
    let m : p * (c + 1) ≤ p * t = mul-le-mul_left p (let l : c + 1 ≤ t = omega (arith, k) in l) in
    let e : p * (c + 1) ≡ p * c + p = spread p c in
    less (p * c) p (p * t) n h (subst (λ x. x ≤ p * t) e m)
  where
    spread : (p c : ℕ) → p * (c + 1) ≡ p * c + p
    spread p c = grind arith

    less : (x p y n : ℕ) → n < p → x + p ≤ y → x + n < y
    less x p y n h k = omega (arith, h, k)

-- ---- the number of a tuple

abbrev tuple_number : (widths numbers : List ℕ) → ℕ
tuple_number (w ∷ ws) (n ∷ ns) = 2 ^ w * tuple_number ws ns + n
tuple_number _ _ = 0

tuple-below : (ws ns : List ℕ) → FieldsFit ws ns → tuple_number ws ns < tuples_of_widths ws
tuple-below [] [] h = omega arith
tuple-below [] (n ∷ ns) h = absurd h
tuple-below (w ∷ ws) [] h = absurd h
tuple-below (w ∷ ws) (n ∷ ns) h = below (2 ^ w) (tuple_number ws ns) (tuples_of_widths ws) n h.0 (tuple-below ws ns h.1)

tuple-same : (ws ms ns : List ℕ) → FieldsFit ws ms → FieldsFit ws ns → tuple_number ws ms ≡ tuple_number ws ns → ms ≡ ns
tuple-same [] [] [] h k e = refl
tuple-same [] [] (n ∷ ns) h k e = absurd k
tuple-same [] (m ∷ ms) ns h k e = absurd h
tuple-same (w ∷ ws) [] ns h k e = absurd h
tuple-same (w ∷ ws) (m ∷ ms) [] h k e = absurd k
tuple-same (w ∷ ws) (m ∷ ms) (n ∷ ns) h k e =
    let s = split-number (2 ^ w) (tuple_number ws ms) (tuple_number ws ns) m n (pow_pos w) h.0 k.0 e in
    let rest = tuple-same ws ms ns h.1 k.1 s.0 in
    (λ i. s.1 i ∷ rest i)

-- ---- the number of an instance

abbrev number_in : List AssumeDecl → (number : ℕ) → (values : List ℕ) → ℕ
number_in [] n vs = 0
number_in (a ∷ rest) zero vs = tuple_number (widths_of a.params) vs
number_in (a ∷ rest) (suc n) vs = tuples_of a + number_in rest n vs

-- a sum from a number on
sum-from : (a : ℕ) (ns : List ℕ) → fold (λ s n. s + n) a ns ≡ a + sum ns
sum-from a [] = let e : a ≡ a + 0 = omega arith in e
sum-from a (n ∷ ns) = sum-from (a + n) ns ∙ moved a n (sum ns) ∙ ap (λ s. a + s) (sym (sum-from (0 + n) ns))
  where
    moved : (a n s : ℕ) → a + n + s ≡ a + (0 + n + s)
    moved a n s = omega arith

sum-first : (n : ℕ) (ns : List ℕ) → sum (n ∷ ns) ≡ n + sum ns
sum-first n ns = sum-from (0 + n) ns ∙ nothing n (sum ns)
  where
    nothing : (n s : ℕ) → 0 + n + s ≡ n + s
    nothing n s = omega arith

-- the numbers fit the assumption of this number, which is there
record Here (rest : List AssumeDecl) (n : ℕ) (vs : List ℕ) : Type 0 where
  there : n < length rest
  fit : (a : AssumeDecl) → slice_get rest n ≡ Some a → FieldsFit (widths_of a.params) vs

later : (a : AssumeDecl) (rest : List AssumeDecl) (n : ℕ) (vs : List ℕ) → Here (a ∷ rest) (suc n) vs → Here rest n vs
later a rest n vs h = let l = h.there in record { there = omega (arith, l); fit = h.fit }

number-below : (rest : List AssumeDecl) (n : ℕ) (vs : List ℕ) → Here rest n vs → number_in rest n vs < sum (map tuples_of rest)
number-below [] n vs h = let l = h.there in absurd (omega (arith, l))
number-below (a ∷ rest) zero vs h =
    subst (λ s. tuple_number (widths_of a.params) vs < s) (sym (sum-first (tuples_of a) (map tuples_of rest)))
    (at-first (tuple_number (widths_of a.params) vs) (tuples_of a) (sum (map tuples_of rest)) (tuple-below (widths_of a.params) vs (h.fit a refl)))
  where
    at-first : (n t s : ℕ) → n < t → n < t + s
    at-first n t s h = omega (arith, h)
number-below (a ∷ rest) (suc n) vs h =
    subst (λ s. tuples_of a + number_in rest n vs < s) (sym (sum-first (tuples_of a) (map tuples_of rest)))
    (behind (tuples_of a) (number_in rest n vs) (sum (map tuples_of rest)) (number-below rest n vs (later a rest n vs h)))
  where
    behind : (t n s : ℕ) → n < s → t + n < t + s
    behind t n s h = omega (arith, h)

number-same : (rest : List AssumeDecl) (m n : ℕ) (us vs : List ℕ) → Here rest m us → Here rest n vs → number_in rest m us ≡ number_in rest n vs → (m ≡ n) × (us ≡ vs)
number-same [] m n us vs h k e = let l = h.there in absurd (omega (arith, l))
number-same (a ∷ rest) zero zero us vs h k e = (refl, tuple-same (widths_of a.params) us vs (h.fit a refl) (k.fit a refl) e)
number-same (a ∷ rest) zero (suc n) us vs h k e = let b = tuple-below (widths_of a.params) us (h.fit a refl) in absurd (omega (arith, b, e))
number-same (a ∷ rest) (suc m) zero us vs h k e = let b = tuple-below (widths_of a.params) vs (k.fit a refl) in absurd (omega (arith, b, e))
number-same (a ∷ rest) (suc m) (suc n) us vs h k e =
    let s = number-same rest m n us vs (later a rest m us h) (later a rest n vs k) (omega (arith, e)) in
    (ap suc s.0, s.1)

-- ---- all of them

none-distinct : IsDistinct eqb []
unfolding IsDistinct
none-distinct = tt

one-distinct : (n : ℕ) (ns : List ℕ) → AllByRecursion (λ m. eqb n m ≡ false) ns → IsDistinct eqb ns → IsDistinct eqb (n ∷ ns)
unfolding IsDistinct
one-distinct n ns h k = (h, k)

module _ (d : Design) (level : ℕ) (first : (i : ℕ) (a : AssumeDecl) → slice_get (assumptions_to level d) i ≡ Some a → slice_get (all_assumptions d) i ≡ Some a) where
  abbrev number : Instance → ℕ
  number i = number_in (assumptions_to level d) i.number i.values

  here : (i : Instance) → Fits d level i → Here (assumptions_to level d) i.number i.values
  here i h = record { there = h.among; fit = λ a e. h.values a (first i.number a e) }

  apart : (i j : Instance) → Fits d level i → Fits d level j → i ≢ j → eqb (number i) (number j) ≡ false
  apart i j h k differ = elim (cases_Bool (eqb (number i) (number j))) [
    | inl e ↦
        let s = number-same (assumptions_to level d) i.number j.number i.values j.values (here i h) (here j k) (eqb-true (number i) (number j) e) in
        absurd (differ (λ x. record { number = s.0 x; values = s.1 x }))
    | inr e ↦ e
  ]

  apart-all : (i : Instance) (is : List Instance) → Fits d level i → AllByRecursion (Fits d level) is → AllByRecursion (λ j. i ≢ j) is → AllByRecursion (λ n. eqb (number i) n ≡ false) (map number is)
  apart-all i [] h k differ = tt
  apart-all i (j ∷ is) h k differ = (apart i j h k.0 differ.0, apart-all i is h k.1 differ.1)

  distinct : (is : List Instance) → AllByRecursion (Fits d level) is → AreDifferent is → IsDistinct eqb (map number is)
  distinct [] h k = none-distinct
  distinct (i ∷ is) h k = one-distinct (number i) (map number is) (apart-all i is h.0 h.1 k.0) (distinct is h.1 k.1)

  all-below : (is : List Instance) → AllByRecursion (Fits d level) is → (q : ℕ) → list_any (eqb q) (map number is) ≡ true → q < tuples_to level d
  all-below [] h q e = absurd (false≢true e)
  all-below (i ∷ is) h q e = elim (or_cases (eqb q (number i)) (list_any (eqb q) (map number is)) e) [
    | inl s ↦ subst (λ n. n < tuples_to level d) (sym (eqb-true q (number i) s)) (number-below (assumptions_to level d) i.number i.values (here i h.0))
    | inr s ↦ all-below is h.1 q s
  ]

  as-many : (is : List Instance) → length (map number is) ≡ length is
  as-many [] = refl
  as-many (i ∷ is) = ap suc (as-many is)

  pub is-short : (is : List Instance) → AllByRecursion (Fits d level) is → AreDifferent is → length is ≤ tuples_to level d
  is-short is h k = subst (λ n. n ≤ tuples_to level d) (as-many is) (length-le_from_distinct_below (map number is) (tuples_to level d) (distinct is h k) (all-below is h))
