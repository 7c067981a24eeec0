-- Limits are tested in order: those before one are kept, and the first that is not is the first that is exceeded.
use Rattle.std.specs.Prelude.{◌≡◌, ℕ, suc, ◌<◌, ◌≤◌, ◌-◌, ◌^◌, min, Bool, true, false, nat_lt, List, [], ◌∷◌, ◌++◌, length, take, drop, get_or, cond, Option, Some, None, option_map, refl}
use Rattle.std.proofs.Common.{sym, ◌∙◌, ap, subst, inl, inr, arith, add-one, ◌+◌}
use Rattle.std.proofs.lemmas.Bool.{cases_lt, lt-ltb, le-ltb}
use Rattle.std.proofs.Math.Seq.{take-suc, drop-cons}
use Rattle.std.proofs.lemmas.List.{take-append-drop}
use Rattle.cocoon_num.specs.declared.limit_name.LimitName.{LimitName}
use Rattle.cocoon_num.specs.Tree.{Design}
use Rattle.cocoon_types.specs.Limits.{limits, counts, most, first_above, reported, IsWithin, AreWithin, FirstOver}

-- what is mapped to nothing is nothing
no_count : (o : Option ℕ) → option_map reported o ≡ None → o ≡ None
no_count None h = refl
no_count (Some n) h = absurd cc

-- what is mapped to something is something
some_count : (o : Option ℕ) (m : ℕ) → option_map reported o ≡ Some m → (n : ℕ) × (o ≡ Some n) × (m ≡ reported n)
some_count None m h = absurd cc
some_count (Some n) m h = (n, refl, sym (of_some h))
  where
    of_some : ◌≡◌ {A = Option ℕ} (Some (reported n)) (Some m) → reported n ≡ m
    of_some h = cc

within_end : (d : Design) (xs : List LimitName) (y : LimitName) → AreWithin d xs → IsWithin d y → AreWithin d (xs ++ (y ∷ []))
within_end d [] y w k = (k, tt)
within_end d (x ∷ xs) y w k = (w.0, within_end d xs y w.1 k)

-- one more limit is kept
pub within_more : (d : Design) (ls : List LimitName) (i : ℕ) (x : LimitName) → i < length ls → AreWithin d (take i ls)
    → option_map reported (first_above (most (get_or ls i x)) (counts d (get_or ls i x))) ≡ None → AreWithin d (take (suc i) ls)
within_more d ls i x h w k = subst (AreWithin d) (sym (take-suc ls i x h)) (within_end d (take i ls) (get_or ls i x) w (no_count _ k))

-- this limit is the first that is exceeded
pub first_at : (d : Design) (i : ℕ) (x : LimitName) (m : ℕ) → i < length limits → AreWithin d (take i limits)
    → option_map reported (first_above (most (get_or limits i x)) (counts d (get_or limits i x))) ≡ Some m
    → (n : ℕ) × FirstOver d (get_or limits i x) n × (m ≡ reported n)
first_at d i x m h w k =
    let s : (n : ℕ) × (first_above (most (get_or limits i x)) (counts d (get_or limits i x)) ≡ Some n) × (m ≡ reported n) = some_count _ m k in (
      s.0,
      record {
        before = take i limits;
        after = drop (suc i) limits;
        order = sym (take-append-drop i limits) ∙ ap (λ xs. take i limits ++ xs) (drop-cons limits i x h);
        within = w;
        over = s.1;
      },
      s.2,
    )

-- the same over a list that is that of the limits
pub first_in : (d : Design) (ls : List LimitName) → ls ≡ limits → (i : ℕ) (x : LimitName) (m : ℕ) → AreWithin d (take i limits) → i < length limits
    → option_map reported (first_above (most (get_or ls i x)) (counts d (get_or ls i x))) ≡ Some m
    → (n : ℕ) × FirstOver d (get_or ls i x) n × (m ≡ reported n)
first_in d ls e i x m w h =
    subst (λ ks. option_map reported (first_above (most (get_or ks i x)) (counts d (get_or ks i x))) ≡ Some m → (n : ℕ) × FirstOver d (get_or ks i x) n × (m ≡ reported n))
    (sym e) (λ k. first_at d i x m h w k)

pub within_in : (d : Design) (ls : List LimitName) → ls ≡ limits → (i : ℕ) (x : LimitName) → AreWithin d (take i limits) → i < length limits
    → option_map reported (first_above (most (get_or ls i x)) (counts d (get_or ls i x))) ≡ None → AreWithin d (take (i + 1) limits)
within_in d ls e i x w h =
    subst (λ ks. option_map reported (first_above (most (get_or ks i x)) (counts d (get_or ks i x))) ≡ None → AreWithin d (take (i + 1) limits))
    (sym e) (λ k. rw add-one (within_more d limits i x h w k))

-- ---- counts that stop at the last number

-- what is over a number is so as it is reported
over_reported : (top m n : ℕ) → m < top → nat_lt m (min n top) ≡ nat_lt m n
over_reported top m n h = elim (cases_lt m n) [
  | inl g ↦ let small : m < min n top = omega arith in lt-ltb m (min n top) small ∙ sym (lt-ltb m n g)
  | inr g ↦ let small : min n top ≤ m = omega arith in le-ltb m (min n top) small ∙ sym (le-ltb m n g)
]

again : (top n : ℕ) → min (min n top) top ≡ min n top
again top n = omega arith

pub one_over : (m n : ℕ) → m < 2 ^ 64 - 1 → option_map reported (first_above m (reported n ∷ [])) ≡ option_map reported (first_above m (n ∷ []))
one_over m n h = ap (λ b. option_map reported (cond b (Some (reported n)) None)) (over_reported (2 ^ 64 - 1) m n h) ∙ by_test (nat_lt m n)
  where
    by_test : (b : Bool) → option_map reported (cond b (Some (reported n)) None) ≡ option_map reported (cond b (Some n) None)
    by_test true = ap (λ k. Some k) (again (2 ^ 64 - 1) n)
    by_test false = refl
