-- Chains with one more clause.
use Rattle.std.proofs.Common.{◌≡◌, ℕ, ◌+◌, ◌-◌, ◌<◌, ◌≤◌, List, [], ◌∷◌, ◌++◌, length, get_or, set, sym, ◌∙◌, subst, arith, inl, inr}
use Rattle.std.proofs.lemmas.Bool.{cases_eq, cases_lt}
use Rattle.std.proofs.lemmas.List.{get_or-set_same, get_or-set_other, get_or_append_left, get_or_push, length_push}
use Rattle.proof_check.specs.Registering.{IsLast}

-- one more does not matter below the bound
last-longer : (fs : List ℕ) (f i b a : ℕ) → b ≤ length fs → IsLast fs i b a → IsLast (fs ++ f ∷ []) i b a
last-longer fs f i b a within h = record {
  later = λ j lt e. h.later j lt (sym (get_or_append_left fs (f ∷ []) 0 j (omega (arith, lt, within))) ∙ e);
  found = λ j e. let r = h.found j e in (r.0, get_or_append_left fs (f ∷ []) 0 j (omega (arith, r.0, within)) ∙ r.1);
}

pub heads-more : (fs hs : List ℕ) (f n : ℕ) → f < length hs → ((i : ℕ) → IsLast fs i (length fs) (get_or hs i 0)) → n ≡ length fs + 1
    → (i : ℕ) → IsLast (fs ++ f ∷ []) i (length (fs ++ f ∷ [])) (get_or (set hs f n) i 0)
heads-more fs hs f n within h e i = elim (cases_eq i f) [
  | inl is ↦ subst (λ k. IsLast (fs ++ f ∷ []) k (length (fs ++ f ∷ [])) (get_or (set hs f n) k 0)) (sym is)
      (subst (λ a. IsLast (fs ++ f ∷ []) f (length (fs ++ f ∷ [])) a) (sym (get_or-set_same hs f n 0 within)) (record {
        later = λ j lt k. omega (arith, lt, e, length_push fs f);
        found = λ j k. (omega (arith, k, e, length_push fs f), get_or_push fs f 0 j (omega (arith, k, e)));
      }))
  | inr other ↦ subst (λ a. IsLast (fs ++ f ∷ []) i (length (fs ++ f ∷ [])) a) (sym (get_or-set_other hs f i n 0 other)) (record {
    later = λ j lt k. elim (cases_lt j (length fs)) [
      | inl below ↦ (h i).later j below (sym (get_or_append_left fs (f ∷ []) 0 j below) ∙ k)
      | inr above ↦ absurd (other (sym k ∙ get_or_push fs f 0 j (omega (arith, lt, above, length_push fs f))))
    ];
    found = λ j k. let r = (h i).found j k in (omega (arith, r.0, length_push fs f), get_or_append_left fs (f ∷ []) 0 j r.0 ∙ r.1);
  })
]

pub links-more : (fs ls : List ℕ) (f h : ℕ) → length ls ≡ length fs → IsLast fs f (length fs) h → ((k : ℕ) → k < length fs → IsLast fs (get_or fs k 0) k (get_or ls k 0))
    → (k : ℕ) → k < length (fs ++ f ∷ []) → IsLast (fs ++ f ∷ []) (get_or (fs ++ f ∷ []) k 0) k (get_or (ls ++ h ∷ []) k 0)
links-more fs ls f h same last old k lt = elim (cases_lt k (length fs)) [
  | inl below ↦ subst (λ i. IsLast (fs ++ f ∷ []) i k (get_or (ls ++ h ∷ []) k 0)) (sym (get_or_append_left fs (f ∷ []) 0 k below))
      (subst (λ a. IsLast (fs ++ f ∷ []) (get_or fs k 0) k a) (sym (get_or_append_left ls (h ∷ []) 0 k (omega (arith, below, same))))
      (last-longer fs f (get_or fs k 0) k (get_or ls k 0) (omega (arith, below)) (old k below)))
  | inr above ↦ let is : length fs ≡ k = omega (arith, lt, above, length_push fs f) in
      subst (λ i. IsLast (fs ++ f ∷ []) i k (get_or (ls ++ h ∷ []) k 0)) (sym (get_or_push fs f 0 k is))
      (subst (λ a. IsLast (fs ++ f ∷ []) f k a) (sym (get_or_push ls h 0 k (same ∙ is)))
      (subst (λ n. IsLast (fs ++ f ∷ []) f n h) is (last-longer fs f f (length fs) h (omega arith) last)))
]

pub last-within : (fs : List ℕ) (i n a : ℕ) → IsLast fs i n a → a ≤ n
last-within fs i n a h = elim (cases_eq a 0) [
  | inl none ↦ omega (arith, none)
  | inr some ↦ omega (arith, some, (h.found (a - 1) (omega (arith, some))).0)
]
