-- The inputs of a term are the only ascending list of its inputs.
use Rattle.std.proofs.Common.{◌≡◌, ◌⊎◌, inl, inr, ℕ, zero, suc, ◌==◌, ◌<◌, ◌≤◌, List, [], ◌∷◌, Bool, true, false, Some, if◌then◌else◌, refl, sym, subst, ◌∙◌, arith}
use Rattle.std.specs.Prelude.{nat_lt, slice_get}
use Rattle.std.proofs.lemmas.Bool.{cases_Bool, cond-true, cond-false, eqb-true, false≢true, ltb-true, or_cases, or_left, or_right}
use Rattle.bv_terms.specs.Inputs.{Mentions}
use Rattle.bv_terms.specs.TermTrees.{Term, constant, input, apply, not_, binary, slice, pick}
use Rattle.bv_terms.specs.Walks.{is_among, same_term, walk}
use Rattle.bv_terms.proofs.SameTerms.{same-itself, same-only}
use Rattle.obligation_laws.proofs.Typings.{in_place}
use Rattle.sound_types.proofs.Members.{In, at_place}
use Rattle.bv_terms.specs.Copies.{AreInputs, AreRising}
use Rattle.query_laws.specs.OwnNames.{input_numbers, inputs_of, with_number}

-- ---- ascending lists

-- from this number on
abbrev Rises : ℕ → List ℕ → Type 0
Rises n [] = Unit {0}
Rises n (x ∷ xs) = (n ≤ x) × Rises (suc x) xs

rises_in : (n : ℕ) (xs : List ℕ) (i : ℕ) → Rises n xs → In i xs → n ≤ i
rises_in n [] i h k = absurd k
rises_in n (x ∷ xs) i h k = elim k [
  | inl e ↦ let l = h.0 in omega (arith, e, l)
  | inr j ↦ let l = h.0 in let r = rises_in (suc x) xs i h.1 j in omega (arith, l, r)
]

not_first : (n x : ℕ) (xs : List ℕ) (i : ℕ) → Rises n (x ∷ xs) → In i xs → (i ≡ x) → ⊥
not_first n x xs i h k e = let r = rises_in (suc x) xs i h.1 k in absurd (omega (arith, r, e))

-- two of them with the same members are equal
one_list : (n : ℕ) (xs ys : List ℕ) → Rises n xs → Rises n ys → ((i : ℕ) → In i xs → In i ys) → ((i : ℕ) → In i ys → In i xs) → xs ≡ ys
one_list n [] [] h k f g = refl
one_list n [] (y ∷ ys) h k f g = absurd (g y (inl refl))
one_list n (x ∷ xs) [] h k f g = absurd (f x (inl refl))
one_list n (x ∷ xs) (y ∷ ys) h k f g = λ t. same t ∷ one_list (suc x) xs ys h.1 (subst (λ z. Rises (suc z) ys) (sym same) k.1) forth back t
  where
    same : x ≡ y
    same = elim (f x (inl refl)) [
      | inl e ↦ e
      | inr i ↦ elim (g y (inl refl)) [
        | inl e ↦ sym e
        | inr j ↦ let a = rises_in (suc y) ys x k.1 i in let b = rises_in (suc x) xs y h.1 j in absurd (omega (arith, a, b))
      ]
    ]

    forth : (i : ℕ) → In i xs → In i ys
    forth i m = elim (f i (inr m)) [
      | inl e ↦ absurd (not_first n x xs i h m (e ∙ sym same))
      | inr j ↦ j
    ]

    back : (i : ℕ) → In i ys → In i xs
    back i m = elim (g i (inr m)) [
      | inl e ↦ absurd (not_first n y ys i k m (e ∙ same))
      | inr j ↦ j
    ]

-- ---- and by places

by_places : (xs : List ℕ) → AreRising xs → (n : ℕ) → ((a : ℕ) → slice_get xs 0 ≡ Some a → n ≤ a) → Rises n xs
by_places [] r n h = tt
by_places (x ∷ xs) r n h =
    (h x refl, by_places xs (λ i j a b l p q. r (suc i) (suc j) a b (omega (arith, l)) p q) (suc x) (λ a p. let l = r 0 1 x a (omega arith) refl p in omega (arith, l)))

places : (n : ℕ) (xs : List ℕ) → Rises n xs → AreRising xs
places n [] h = λ i j a b l p q. absurd (cc)
places n (x ∷ xs) h = λ i j a b l p q. by (places (suc x) xs h.1) i j a b l p q
  where
    by : AreRising xs → (i j a b : ℕ) → i < j → slice_get (x ∷ xs) i ≡ Some a → slice_get (x ∷ xs) j ≡ Some b → a < b
    by later i zero a b l p q = absurd (omega (arith, l))
    by later zero (suc j) a b l p q =
        let e : x ≡ a = cc in
        let r = rises_in (suc x) xs b h.1 (at_place xs j b q) in
        omega (arith, e, r)
    by later (suc i) (suc j) a b l p q = later i j a b (omega (arith, l)) p q

-- ---- one number more

put_rises : (n i : ℕ) (xs : List ℕ) → n ≤ i → Rises n xs → Rises n (with_number i xs)
put_rises n i [] h k = (h, tt)
put_rises n i (j ∷ js) h k = elim (cases_Bool (i == j)) [
  | inl e ↦ subst (Rises n) (sym (cond-true (i == j) (j ∷ js) (if nat_lt i j then i ∷ j ∷ js else j ∷ with_number i js) e)) k
  | inr e ↦ subst (Rises n) (sym (cond-false (i == j) (j ∷ js) (if nat_lt i j then i ∷ j ∷ js else j ∷ with_number i js) e)) (other (λ l. put_rises (suc j) i js l k.1) e)
]
  where
    after : (i == j) ≡ false → nat_lt i j ≡ false → suc j ≤ i
    after e l = grind (arith, e, l)

    other : ((suc j ≤ i) → Rises (suc j) (with_number i js)) → (i == j) ≡ false → Rises n (if nat_lt i j then i ∷ j ∷ js else j ∷ with_number i js)
    other later e = elim (cases_Bool (nat_lt i j)) [
      | inl l ↦ subst (Rises n) (sym (cond-true (nat_lt i j) (i ∷ j ∷ js) (j ∷ with_number i js) l)) (h, (ltb-true i j l, k.1))
      | inr l ↦ subst (Rises n) (sym (cond-false (nat_lt i j) (i ∷ j ∷ js) (j ∷ with_number i js) l)) (k.0, later (after e l))
    ]

in_either_way : (b : Bool) (x : ℕ) (xs ys : List ℕ) → In x xs → In x ys → In x (if b then xs else ys)
in_either_way true x xs ys h k = h
in_either_way false x xs ys h k = k

put_in : (i : ℕ) (xs : List ℕ) → In i (with_number i xs)
put_in i [] = inl refl
put_in i (j ∷ js) = elim (cases_Bool (i == j)) [
  | inl e ↦ subst (In i) (sym (cond-true (i == j) (j ∷ js) (if nat_lt i j then i ∷ j ∷ js else j ∷ with_number i js) e)) (inl (eqb-true i j e))
  | inr e ↦
      subst (In i) (sym (cond-false (i == j) (j ∷ js) (if nat_lt i j then i ∷ j ∷ js else j ∷ with_number i js) e))
      (in_either_way (nat_lt i j) i (i ∷ j ∷ js) (j ∷ with_number i js) (inl refl) (inr (put_in i js)))
]

old_in : (x i : ℕ) (xs : List ℕ) → In x xs → In x (with_number i xs)
old_in x i [] h = absurd h
old_in x i (j ∷ js) h =
    in_either_way (i == j) x (j ∷ js) (if nat_lt i j then i ∷ j ∷ js else j ∷ with_number i js) h
    (in_either_way (nat_lt i j) x (i ∷ j ∷ js) (j ∷ with_number i js) (inr h) (elim h [ inl e ↦ inl e | inr k ↦ inr (old_in x i js k) ]))

if_in : (b : Bool) (x : ℕ) (xs ys : List ℕ) → In x (if b then xs else ys) → In x xs ⊎ In x ys
if_in true x xs ys h = inl h
if_in false x xs ys h = inr h

in_put : (x i : ℕ) (xs : List ℕ) → In x (with_number i xs) → (x ≡ i) ⊎ In x xs
in_put x i [] h = elim h [ inl e ↦ inl e | inr l ↦ absurd l ]
in_put x i (j ∷ js) h = elim (if_in (i == j) x (j ∷ js) (if nat_lt i j then i ∷ j ∷ js else j ∷ with_number i js) h) [
  | inl k ↦ inr k
  | inr k ↦ elim (if_in (nat_lt i j) x (i ∷ j ∷ js) (j ∷ with_number i js) k) [
    | inl l ↦ l
    | inr l ↦ elim l [
      | inl e ↦ inr (inl e)
      | inr m ↦ elim (in_put x i js m) [ inl e ↦ inl e | inr o ↦ inr (inr o) ]
    ]
  ]
]

-- ---- the inputs among some terms

numbers_rise : (ts : List Term) → Rises 0 (input_numbers ts)
numbers_rise [] = tt
numbers_rise (input i w ∷ ts) = put_rises 0 i (input_numbers ts) (omega arith) (numbers_rise ts)
numbers_rise (constant w n ∷ ts) = numbers_rise ts
numbers_rise (apply f args w ∷ ts) = numbers_rise ts
numbers_rise (not_ a ∷ ts) = numbers_rise ts
numbers_rise (binary op a b ∷ ts) = numbers_rise ts
numbers_rise (slice a high low ∷ ts) = numbers_rise ts
numbers_rise (pick c a b ∷ ts) = numbers_rise ts

one_more : (i : ℕ) (t : Term) (ts : List Term) → In i (input_numbers ts) → In i (input_numbers (t ∷ ts))
one_more i (input j w) ts h = old_in i j (input_numbers ts) h
one_more i (constant w n) ts h = h
one_more i (apply f args w) ts h = h
one_more i (not_ a) ts h = h
one_more i (binary op a b) ts h = h
one_more i (slice a high low) ts h = h
one_more i (pick c a b) ts h = h

numbers_in : (ts : List Term) (i w : ℕ) → is_among ts (input i w) ≡ true → In i (input_numbers ts)
numbers_in [] i w h = absurd (false≢true h)
numbers_in (t ∷ ts) i w h = elim (or_cases (same_term t (input i w)) (is_among ts (input i w)) h) [
  | inl s ↦ subst (λ u. In i (input_numbers (u ∷ ts))) (sym (same-only t (input i w) s)) (put_in i (input_numbers ts))
  | inr r ↦ one_more i t ts (numbers_in ts i w r)
]

abbrev Named : List Term → ℕ → Type 0
Named ts i = (w : ℕ) × (is_among ts (input i w) ≡ true)

behind : (t : Term) (ts : List Term) (i : ℕ) → Named ts i → Named (t ∷ ts) i
behind t ts i h = (h.0, or_right (same_term t (input i h.0)) (is_among ts (input i h.0)) h.1)

in_numbers : (ts : List Term) (i : ℕ) → In i (input_numbers ts) → Named ts i
in_numbers [] i h = absurd h
in_numbers (input j w ∷ ts) i h = elim (in_put i j (input_numbers ts) h) [
  | inl e ↦ subst (Named (input j w ∷ ts)) (sym e) (w, or_left (same_term (input j w) (input j w)) (is_among ts (input j w)) (same-itself (input j w)))
  | inr k ↦ behind (input j w) ts i (in_numbers ts i k)
]
in_numbers (constant w n ∷ ts) i h = behind (constant w n) ts i (in_numbers ts i h)
in_numbers (apply f args w ∷ ts) i h = behind (apply f args w) ts i (in_numbers ts i h)
in_numbers (not_ a ∷ ts) i h = behind (not_ a) ts i (in_numbers ts i h)
in_numbers (binary op a b ∷ ts) i h = behind (binary op a b) ts i (in_numbers ts i h)
in_numbers (slice a high low ∷ ts) i h = behind (slice a high low) ts i (in_numbers ts i h)
in_numbers (pick c a b ∷ ts) i h = behind (pick c a b) ts i (in_numbers ts i h)

-- ---- the inputs of a term

pub mentioned_in : (t : Term) (i w : ℕ) → Mentions t i w → In i (inputs_of t)
mentioned_in t i w m = numbers_in (walk t []) i w m

pub are_inputs : (t : Term) → AreInputs t (inputs_of t)
are_inputs t = record {
  rising = places 0 (inputs_of t) (numbers_rise (walk t []));
  each_ = λ i w m. in_place i (inputs_of t) (mentioned_in t i w m);
  only = λ i a. in_numbers (walk t []) i (at_place (inputs_of t) a.0 i a.1);
}

pub only_inputs : (t : Term) (inputs : List ℕ) → AreInputs t inputs → inputs ≡ inputs_of t
only_inputs t inputs h =
    one_list 0 inputs (inputs_of t) (by_places inputs h.rising 0 (λ a p. omega arith)) (numbers_rise (walk t []))
    (λ i m. let p = in_place i inputs m in let q = h.only i (p.0, p.1) in mentioned_in t i q.0 q.1)
    (λ i m. let q = in_numbers (walk t []) i m in let p = h.each_ i q.0 q.1 in at_place inputs p.0 i p.1)
