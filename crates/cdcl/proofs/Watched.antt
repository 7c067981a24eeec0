-- The watched literals of clauses, and the lists of where each literal is watched.
use Rattle.std.proofs.Common.{◌≡◌, ◌≢◌, ℕ, zero, suc, ◌+◌, ◌-◌, ◌<◌, ◌≤◌, ℤ, List, [], ◌∷◌, ◌++◌, length, get_or, take, Option, Some, None, refl, sym, ap, ◌∙◌, subst, arith, ◌⊎◌, inl, inr}
use Rattle.std.specs.Prelude.{slice_get}
use Rattle.std.specs.List.{remove, swap_remove}
use Rattle.std.proofs.lemmas.List.Edits.{get_or-remove_above, get_or-remove_below, length-remove}
use Rattle.std.proofs.Math.ListN.{length-set, set}
use Rattle.std.proofs.lemmas.Bool.{cases_Bool, cases_eq, cases_lt, both_ways}
use Rattle.std.proofs.lemmas.List.{get_or_append_left, get_or_default, get_or_push, get_or-set_other, get_or-set_same, get_or-take, length-append, length-take-le, length_push}
use Rattle.std.proofs.lemmas.Option.{none-some, same_Some}
use Rattle.cnf_core.specs.Literals.{same}
use Rattle.cnf_core.specs.declared.lit.Lit.{Lit}
use Rattle.cnf_core.proofs.LiteralFacts.{same-is, same-same}
use Rattle.cdcl.specs.Watching.{AreWatched, IsListed, IsOther, IsTakenOut, WatchesOther, list_of}
use Rattle.cdcl.specs.declared.watches.Pair.{Pair}
use Rattle.cdcl.specs.declared.watches.Watches.{Watches}

-- ---- the two literals of a pair

pub other-of : (w : Watches) (n : ℕ) (l : ℤ) (pair : Pair) (o : Option Lit) → slice_get w.pairs.items n ≡ Some pair → IsOther pair l o → WatchesOther w n l o
other-of w n l pair (Some x) e h = (pair, e, h)
other-of w n l pair None e h = λ p b k a. h b (subst (λ q. AreWatched q l b) (same_Some p pair (sym k ∙ e)) a)

pub turned : (p : Pair) (a b : ℤ) → AreWatched p a b → AreWatched p b a
turned p a b h = elim h [ inl x ↦ inr (x.1, x.0) | inr y ↦ inl (y.1, y.0) ]

pub same-other : (p : Pair) (a b c : ℤ) → AreWatched p a b → AreWatched p a c → b ≡ c
same-other p a b c h k = elim h [
  | inl x ↦ elim k [ inl y ↦ sym x.1 ∙ y.1 | inr y ↦ sym x.1 ∙ y.0 ∙ sym x.0 ∙ y.1 ]
  | inr x ↦ elim k [ inl y ↦ sym x.1 ∙ y.0 ∙ sym x.0 ∙ y.1 | inr y ↦ sym x.1 ∙ y.1 ]
]

pub cases-literal : (l m : ℤ) → (l ≡ m) ⊎ (l ≢ m)
cases-literal l m = elim (cases_Bool (same l m)) [
  | inl on ↦ inl (same-is l m on)
  | inr off ↦ inr (λ e. both_ways (same l m) off (ap (same l) (sym e) ∙ same-same l))
]

-- ---- elements of lists that change

pub some-at : {A : Type 0} (xs : List A) (k : ℕ) → k < length xs → (x : A) × (slice_get xs k ≡ Some x)
some-at [] k lt = absurd (omega (arith, lt))
some-at (x ∷ xs) zero lt = (x, refl)
some-at (x ∷ xs) (suc k) lt = some-at xs k (omega (arith, lt))

pub push-cases : {A : Type 0} (xs : List A) (x y : A) (k : ℕ) → slice_get (xs ++ x ∷ []) k ≡ Some y → (slice_get xs k ≡ Some y) ⊎ ((k ≡ length xs) × (x ≡ y))
push-cases [] x y zero e = inr (refl, same_Some x y e)
push-cases [] x y (suc k) e = absurd (none-some y e)
push-cases (a ∷ xs) x y zero e = inl e
push-cases (a ∷ xs) x y (suc k) e = elim (push-cases xs x y k e) [ inl h ↦ inl h | inr h ↦ inr (omega (arith, h.0), h.1) ]

pub set-cases : {A : Type 0} (xs : List A) (n : ℕ) (x y : A) (k : ℕ) → slice_get (set xs n x) k ≡ Some y → ((k ≢ n) × (slice_get xs k ≡ Some y)) ⊎ ((k ≡ n) × (x ≡ y))
set-cases [] n x y k e = absurd (none-some y e)
set-cases (a ∷ xs) zero x y zero e = inr (refl, same_Some x y e)
set-cases (a ∷ xs) zero x y (suc k) e = inl ((λ is. omega (arith, is)), e)
set-cases (a ∷ xs) (suc n) x y zero e = inl ((λ is. omega (arith, is)), e)
set-cases (a ∷ xs) (suc n) x y (suc k) e = elim (set-cases xs n x y k e) [
  | inl h ↦ inl ((λ is. h.0 (omega (arith, is))), h.1)
  | inr h ↦ inr (omega (arith, h.0), h.1)
]

-- ---- what is in a list

pub listed-more : (xs more : List ℕ) (first k : ℕ) → IsListed xs first k → IsListed (xs ++ more) first k
listed-more xs more first k h = record {
  at = h.at;
  later = h.later;
  within = omega (arith, h.within, length-append xs more);
  there = get_or_append_left xs more 0 h.at h.within ∙ h.there;
}

listed-last : (xs : List ℕ) (k : ℕ) → IsListed (xs ++ k ∷ []) 0 k
listed-last xs k = record {
  at = length xs;
  later = omega arith;
  within = omega (arith, length_push xs k);
  there = get_or_push xs k 0 (length xs) refl;
}

listed-out : (xs : List ℕ) (at first k n : ℕ) → at < length xs → get_or xs at 0 ≡ n → first ≤ at → k ≢ n → IsListed xs first k → IsListed (swap_remove xs at n) first k
listed-out xs at first k n lt is le differs h =
    let m = length xs - 1 in
    let y = get_or xs m n in
    let sized : length (set xs at y) ≡ length xs = length-set xs at y in
    let count : length (take m (set xs at y)) ≡ m = length-take-le m (set xs at y) (omega (arith, sized)) in
    elim (cases_eq h.at at) [
      | inl same_place ↦ absurd (differs (sym h.there ∙ ap (λ i. get_or xs i 0) same_place ∙ is))
      | inr other ↦ elim (cases_lt h.at m) [
        | inl before ↦ record {
          at = h.at;
          later = h.later;
          within = omega (arith, before, count);
          there = get_or-take m (set xs at y) h.at 0 before ∙ get_or-set_other xs at h.at y 0 other ∙ h.there;
        }
        | inr after ↦ let last : h.at ≡ m = omega (arith, after, h.within) in
            let less : at < m = omega (arith, lt, last, other, h.within) in
            record {
              at = at;
              later = le;
              within = omega (arith, less, count);
              there = get_or-take m (set xs at y) at 0 less ∙ get_or-set_same xs at y 0 lt ∙ get_or_default xs m n 0 (omega (arith, lt)) ∙ ap (λ i. get_or xs i 0) (sym last) ∙ h.there;
            }
      ]
    ]

pub swapped-out : (xs : List ℕ) (at n : ℕ) → at < length xs → n ≡ get_or xs at n → IsTakenOut xs at (swap_remove xs at n)
swapped-out xs at n lt e =
    let is : get_or xs at 0 ≡ n = sym (e ∙ get_or_default xs at n 0 lt) in
    let m = length xs - 1 in
    let y = get_or xs m n in
    let sized : length (set xs at y) ≡ length xs = length-set xs at y in
    let count : length (take m (set xs at y)) ≡ m = length-take-le m (set xs at y) (omega (arith, sized)) in
    record {
      fewer = omega (arith, count, lt);
      others = λ first k le differs h. listed-out xs at first k n lt is le (λ same_number. differs (same_number ∙ sym is)) h;
    }

pub moved-out : (xs : List ℕ) (at : ℕ) → at < length xs → IsTakenOut xs at (remove xs at)
moved-out xs at lt =
    let sized : length (remove xs at) + 1 ≡ length xs = length-remove xs at lt in
    record {
      fewer = sized;
      others = λ first k le differs h. elim (cases_eq h.at at) [
        | inl same_place ↦ absurd (differs (sym h.there ∙ ap (λ i. get_or xs i 0) same_place))
        | inr other ↦ elim (cases_lt h.at at) [
          | inl before ↦ record {
            at = h.at;
            later = h.later;
            within = omega (arith, before, lt, sized);
            there = get_or-remove_below xs at 0 h.at before lt ∙ h.there;
          }
          | inr after ↦
              let less : at < h.at = omega (arith, after, other) in
              record {
                at = h.at - 1;
                later = omega (arith, le, less);
                within = omega (arith, less, h.within, sized);
                there = get_or-remove_above xs at 0 (h.at - 1) (omega (arith, less)) lt ∙ ap (λ i. get_or xs i 0) (omega (arith, less)) ∙ h.there;
              }
        ]
      ];
    }

module _ (w v : Watches) (lit : ℤ) (n : ℕ) (there : list_of v lit ≡ list_of w lit ++ n ∷ []) (others : (l : ℤ) → l ≢ lit → list_of v l ≡ list_of w l) where
  pub listed-put : (l : ℤ) (first k : ℕ) → IsListed (list_of w l) first k → IsListed (list_of v l) first k
  listed-put l first k h = elim (cases-literal l lit) [
    | inl is ↦ subst (λ xs. IsListed xs first k) (sym (ap (list_of v) is ∙ there ∙ ap (λ m. list_of w m ++ n ∷ []) (sym is))) (listed-more (list_of w l) (n ∷ []) first k h)
    | inr other ↦ subst (λ xs. IsListed xs first k) (sym (others l other)) h
  ]

  pub listed-here : IsListed (list_of v lit) 0 n
  listed-here = subst (λ xs. IsListed xs 0 n) (sym there) (listed-last (list_of w lit) n)

pub listed-added : (w v u : Watches) (pair : Pair) (n m : ℕ) → n ≡ m
    → list_of v pair.first.number ≡ list_of w pair.first.number ++ n ∷ [] → ((l : ℤ) → l ≢ pair.first.number → list_of v l ≡ list_of w l)
    → list_of u pair.second.number ≡ list_of v pair.second.number ++ n ∷ [] → ((l : ℤ) → l ≢ pair.second.number → list_of u l ≡ list_of v l)
    → (a b : ℤ) → AreWatched pair a b → IsListed (list_of u a) 0 m
listed-added w v u pair n m is t1 o1 t2 o2 a b h = subst (IsListed (list_of u a) 0) is (elim h [
  | inl x ↦ subst (λ l. IsListed (list_of u l) 0 n) x.0 (listed-put v u pair.second.number n t2 o2 pair.first.number 0 n (listed-here w v pair.first.number n t1 o1))
  | inr y ↦ subst (λ l. IsListed (list_of u l) 0 n) y.0 (listed-here v u pair.second.number n t2 o2)
])

pub listed-changed : (w t v : Watches) (from second : ℤ) (at n : ℕ) → IsTakenOut (list_of w from) at (list_of t from) → ((l : ℤ) → l ≢ from → list_of t l ≡ list_of w l)
    → list_of v second ≡ list_of t second ++ n ∷ [] → ((l : ℤ) → l ≢ second → list_of v l ≡ list_of t l)
    → (l : ℤ) (first k : ℕ) → first ≤ at → (l ≢ from) ⊎ (k ≢ get_or (list_of w from) at 0) → IsListed (list_of w l) first k → IsListed (list_of v l) first k
listed-changed w t v from second at n out o1 there o2 l first k le differs h = listed-put t v second n there o2 l first k (elim (cases-literal l from) [
  | inl here ↦ elim differs [
    | inl other ↦ absurd (other here)
    | inr other ↦ subst (λ m. IsListed (list_of t m) first k) (sym here) (out.others first k le other (subst (λ m. IsListed (list_of w m) first k) here h))
  ]
  | inr other ↦ subst (λ xs. IsListed xs first k) (sym (o1 l other)) h
])
