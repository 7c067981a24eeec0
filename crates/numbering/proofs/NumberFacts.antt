-- The places of numbers, and what a table of them leaves of one number more.
use Rattle.std.proofs.Common.{◌≡◌, ℕ, suc, ◌+◌, ◌==◌, ◌||◌, Bool, true, false, cond, List, [], ◌∷◌, ◌++◌, length, length-append, Option, Some, None, if◌then◌else◌, is_some, refl, sym, ap, ◌∙◌, BTreeMap, arith}
use Rattle.std.specs.Prelude.{option_map}
use Rattle.std.specs.Option.{option_or}
use Rattle.std.specs.Ordering.{nat_cmp}
use Rattle.std.specs.Cmp.{unsigned_tied}
use Rattle.std.specs.BTreeMap.{UpdatesBy}
use Rattle.std.proofs.lemmas.Bool.{eqb-true}
use Rattle.std.proofs.lemmas.Bool.Decides.{nat_tests}
use Rattle.cocoon_num.specs.Lists.{has_number}
use Rattle.numbering.specs.declared.number_table.NumberTable.{NumberTable}
use Rattle.numbering.specs.NumberPlaces.{first_place, held_at, HasPlaces, place_in, place_of}

is_turned : (m n : ℕ) → (m == n) ≡ (n == m)
is_turned m n = grind (arith, nat_tests)

-- ---- the place, or how many there are

abbrev or_count : Option ℕ → ℕ → ℕ
or_count o k = elim o [ None ↦ k | Some i ↦ i ]

later_place : (b : Bool) (o : Option ℕ) (k i : ℕ) → or_count o k ≡ i
    → or_count (if b then Some 0 else option_map suc o) (suc k) ≡ (if b then 0 else suc i)
later_place true o k i e = refl
later_place false None k i e = ap suc e
later_place false (Some j) k i e = ap suc e

first_is : (n : ℕ) (ns : List ℕ) → or_count (first_place n ns) (length ns) ≡ place_of ns n
first_is n [] = refl
first_is n (m ∷ ns) = later_place (m == n) (first_place n ns) (length ns) (place_of ns n) (first_is n ns)

pub place_is : (t : NumberTable) (ns : List ℕ) → HasPlaces t ns → (n : ℕ) → place_in t n ≡ place_of ns n
place_is t ns h n = (λ i. or_count (h.places n i) (h.count i)) ∙ first_is n ns

-- ---- whether a number is there

there_step : (b : Bool) (o : Option ℕ) (has : Bool) → is_some o ≡ has → is_some (if b then Some 0 else option_map suc o) ≡ (b || has)
there_step true o has e = refl
there_step false None has e = e
there_step false (Some i) has e = e

pub is_there : (n : ℕ) (ns : List ℕ) → is_some (first_place n ns) ≡ has_number n ns
is_there n [] = refl
is_there n (m ∷ ns) =
    there_step (m == n) (first_place n ns) (has_number n ns) (is_there n ns) ∙ ap (λ b. b || has_number n ns) (is_turned m n)

pub has_is : (t : NumberTable) (ns : List ℕ) → HasPlaces t ns → (n : ℕ) → is_some (held_at t n) ≡ has_number n ns
has_is t ns h n = ap is_some (h.places n) ∙ is_there n ns

-- ---- one number more

later : (b : Bool) (o : Option ℕ) (k : ℕ) → option_map suc (option_or o (if b then Some k else None)) ≡ option_or (option_map suc o) (if b then Some (suc k) else None)
later true None k = refl
later false None k = refl
later b (Some i) k = refl

append_step : (b c : Bool) (o whole : Option ℕ) (k : ℕ) → whole ≡ option_or o (if c then Some k else None)
    → (if b then Some 0 else option_map suc whole) ≡ option_or (if b then Some 0 else option_map suc o) (if c then Some (suc k) else None)
append_step true c o whole k e = refl
append_step false c o whole k e = ap (option_map suc) e ∙ later c o k

place_append : (m : ℕ) (ns : List ℕ) (n : ℕ) → first_place m (ns ++ n ∷ []) ≡ option_or (first_place m ns) (if n == m then Some (length ns) else None)
place_append m [] n = refl
place_append m (k ∷ ns) n = append_step (k == m) (n == m) (first_place m ns) (first_place m (ns ++ n ∷ [])) (length ns) (place_append m ns n)

new_step : (b : Bool) (o : Option ℕ) (k : ℕ) → (b ≡ true → o ≡ None) → cond b (Some k) o ≡ option_or o (if b then Some k else None)
new_step true o k f = ap (λ p. option_or p (Some k)) (sym (f refl))
new_step false None k f = refl
new_step false (Some i) k f = refl

old_step : (b : Bool) (o : Option ℕ) (k : ℕ) → (b ≡ true → is_some o ≡ true) → o ≡ option_or o (if b then Some k else None)
old_step true None k f = absurd (let h : false ≡ true = f refl in cc)
old_step false None k f = refl
old_step b (Some i) k f = refl

-- a number that is not there
pub place_new : (old : NumberTable) (held : BTreeMap ℕ ℕ) (next n : ℕ) (ns : List ℕ)
    → HasPlaces old ns → held_at old n ≡ None → UpdatesBy nat_cmp (nat_cmp n) old.held held (Some old.count) → next ≡ old.count + 1
    → HasPlaces (record { held = held; count = next }) (ns ++ n ∷ [])
place_new old held next n ns h none up more = record {
  places = λ m.
      up.0 m
      ∙ ap (λ b. cond b (Some old.count) (held_at old m)) (unsigned_tied n m)
      ∙ new_step (n == m) (held_at old m) old.count (λ e. ap (held_at old) (sym (eqb-true n m e)) ∙ none)
      ∙ (λ i. option_or (h.places m i) (if n == m then Some (h.count i) else None))
      ∙ sym (place_append m ns n);
  count = more ∙ ap (λ k. k + 1) h.count ∙ sym (length-append ns (n ∷ []));
}

-- a number that is there
pub place_old : (old : NumberTable) (next n : ℕ) (ns : List ℕ)
    → HasPlaces old ns → is_some (held_at old n) ≡ true → next ≡ old.count + 1
    → HasPlaces (record { held = old.held; count = next }) (ns ++ n ∷ [])
place_old old next n ns h some more = record {
  places = λ m.
      old_step (n == m) (held_at old m) (length ns) (λ e. ap (λ k. is_some (held_at old k)) (sym (eqb-true n m e)) ∙ some)
      ∙ ap (λ o. option_or o (if n == m then Some (length ns) else None)) (h.places m)
      ∙ sym (place_append m ns n);
  count = more ∙ ap (λ k. k + 1) h.count ∙ sym (length-append ns (n ∷ []));
}
