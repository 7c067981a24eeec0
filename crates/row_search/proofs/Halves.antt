-- Rows in the order of their values: how a search by halves goes on.
use Rattle.std.proofs.Common.{◌≡◌, ◌⊎◌, ℕ, suc, ◌+◌, ◌-◌, ◌<◌, ◌≤◌, List, [], ◌∷◌, length, get_or, None, refl, sym, ◌∙◌, ap, inl, inr, arith}
use Rattle.std.specs.Cmp.Lexicographic.{slice_cmp}
use Rattle.std.specs.Ordering.{nat_cmp, ordering_reverse, ordering_then}
use Rattle.std.specs.declared.cmp.Ordering.{Ordering}
use Rattle.std.specs.declared.cmp.Ordering.TheVariants.{Less, Equal, Greater}
use Rattle.std.proofs.lemmas.Bool.{cases_eq, cases_lt}
use Rattle.std.proofs.lemmas.Cmp.{nat_list_cmp_total}
use Rattle.row_search.specs.Laid.{Ascend}
use Rattle.row_search.specs.Searched.{IsTelling, Searched}
use Rattle.row_search.specs.Spans.{IsNarrowed}
use Rattle.row_search.specs.declared.search.Span.{Span}

reversed : (r s : Ordering) → r ≡ ordering_reverse s → r ≡ Greater → s ≡ Less
reversed r Less h g = refl
reversed r Equal h g = absurd (cc)
reversed r Greater h g = absurd (cc)

above_less : (r s : Ordering) → r ≡ ordering_reverse s → s ≡ Less → r ≡ Greater
above_less r Less h g = h
above_less r Equal h g = absurd (cc)
above_less r Greater h g = absurd (cc)

turned : (xs ys : List ℕ) → slice_cmp nat_cmp xs ys ≡ Greater → slice_cmp nat_cmp ys xs ≡ Less
turned xs ys h = reversed (slice_cmp nat_cmp xs ys) (slice_cmp nat_cmp ys xs) (nat_list_cmp_total.antisymm xs ys) h

-- ---- one half more

pub record Narrows (values : ℕ → List ℕ) (n : ℕ) (xs : List ℕ) (s : Span) : Type 0 where
  pub low : s.low ≤ s.high
  pub high : s.high ≤ n
  pub below : (i : ℕ) → i < s.low → slice_cmp nat_cmp (values i) xs ≡ Less
  pub above : (i : ℕ) → s.high ≤ i → i < n → slice_cmp nat_cmp (values i) xs ≡ Greater

pub narrows : (values : ℕ → List ℕ) (n : ℕ) (xs : List ℕ) (s t : Span) (middle : ℕ) (found : Ordering) → Ascend values n → Narrows values n xs s → s.low ≤ middle → middle < s.high
    → found ≡ slice_cmp nat_cmp (values middle) xs → (found ≡ Equal → ⊥) → IsNarrowed s middle found t → Narrows values n xs t
narrows values n xs s t middle Less a k p m e d h =
    let low : t.low ≡ middle + 1 = h.0 in
    let high : t.high ≡ s.high = h.1 in
    let old : s.high ≤ n = k.high in
    record {
      low = omega arith;
      high = omega arith;
      below = λ i l. below_middle i (cases_lt i middle) (omega arith);
      above = λ i l b. k.above i (omega arith) b;
    }
  where
    below_middle : (i : ℕ) → (i < middle) ⊎ (middle ≤ i) → i ≤ middle → slice_cmp nat_cmp (values i) xs ≡ Less
    below_middle i (inl l) b =
        let old : s.high ≤ n = k.high in
        nat_list_cmp_total.trans (values i) (values middle) xs (a i middle l (omega arith)) (sym e)
    below_middle i (inr l) b = let same : i ≡ middle = omega arith in ap (λ j. slice_cmp nat_cmp (values j) xs) same ∙ sym e
narrows values n xs s t middle Equal a k p m e d h = absurd (d refl)
narrows values n xs s t middle Greater a k p m e d h =
    let low : t.low ≡ s.low = h.0 in
    let high : t.high ≡ middle = h.1 in
    let old : s.high ≤ n = k.high in
    record {
      low = omega arith;
      high = omega arith;
      below = λ i l. k.below i (omega arith);
      above = λ i l b. above_middle i (cases_eq i middle) (omega arith) b;
    }
  where
    above_middle : (i : ℕ) → (i ≡ middle) ⊎ (i ≡ middle → ⊥) → middle ≤ i → i < n → slice_cmp nat_cmp (values i) xs ≡ Greater
    above_middle i (inl l) b c = ap (λ j. slice_cmp nat_cmp (values j) xs) l ∙ sym e
    above_middle i (inr l) b c =
        let first : slice_cmp nat_cmp xs (values middle) ≡ Less = turned (values middle) xs (sym e) in
        let more : slice_cmp nat_cmp xs (values i) ≡ Less = nat_list_cmp_total.trans xs (values middle) (values i) first (a middle i (omega arith) c) in
        above_less (slice_cmp nat_cmp (values i) xs) (slice_cmp nat_cmp xs (values i)) (nat_list_cmp_total.antisymm (values i) xs) more

pub narrower : (s t : Span) (middle : ℕ) (found : Ordering) → s.low ≤ middle → middle < s.high → (found ≡ Equal → ⊥) → IsNarrowed s middle found t → t.high - t.low < s.high - s.low
narrower s t middle Less l m d h = let low : t.low ≡ middle + 1 = h.0 in let high : t.high ≡ s.high = h.1 in omega arith
narrower s t middle Equal l m d h = absurd (d refl)
narrower s t middle Greater l m d h = let low : t.low ≡ s.low = h.0 in let high : t.high ≡ middle = h.1 in omega arith

-- nothing is left
pub less_not : (r : Ordering) → r ≡ Less → r ≡ Equal → ⊥
less_not r h g = cc

greater_not : (r : Ordering) → r ≡ Greater → r ≡ Equal → ⊥
greater_not r h g = cc

pub none_left : (values : ℕ → List ℕ) (n : ℕ) (xs : List ℕ) (s : Span) → Narrows values n xs s → s.high ≤ s.low → Searched values n xs None
none_left values n xs s k l i b = by_side (cases_lt i s.low)
  where
    by_side : (i < s.low) ⊎ (s.low ≤ i) → slice_cmp nat_cmp (values i) xs ≡ Equal → ⊥
    by_side (inl m) = less_not (slice_cmp nat_cmp (values i) xs) (k.below i m)
    by_side (inr m) = greater_not (slice_cmp nat_cmp (values i) xs) (k.above i (omega arith) b)

-- ---- what the first values tell

told : (r s : Ordering) → (r ≡ Equal → ⊥) → r ≡ ordering_then r s
told Less s h = refl
told Equal s h = absurd (h refl)
told Greater s h = refl

told_alone : (r : Ordering) → r ≡ ordering_then r Equal
told_alone Less = refl
told_alone Equal = refl
told_alone Greater = refl

pub first_tells : (vs xs : List ℕ) (n : ℕ) → length vs ≡ n → length xs ≡ n → 0 < n → IsTelling (nat_cmp (get_or vs 0 0) (get_or xs 0 0)) n
    → nat_cmp (get_or vs 0 0) (get_or xs 0 0) ≡ slice_cmp nat_cmp vs xs
first_tells [] xs n e f l h = absurd (omega arith)
first_tells (v ∷ vs) [] n e f l h = absurd (omega arith)
first_tells (v ∷ vs) (x ∷ xs) n e f l (inl h) = told (nat_cmp v x) (slice_cmp nat_cmp vs xs) h
first_tells (v ∷ []) (x ∷ []) n e f l (inr h) = told_alone (nat_cmp v x)
first_tells (v ∷ u ∷ vs) (x ∷ xs) n e f l (inr h) = absurd (let bad : suc (suc (length vs)) ≡ n = e in omega arith)
first_tells (v ∷ []) (x ∷ y ∷ xs) n e f l (inr h) = absurd (let bad : suc (suc (length xs)) ≡ n = f in omega arith)
