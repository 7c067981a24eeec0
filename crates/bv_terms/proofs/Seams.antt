-- Lists with one item more.
use Rattle.std.proofs.Common.{◌≡◌, ℕ, ◌<◌, ◌⊎◌, inl, inr, List, [], ◌∷◌, ◌++◌, length, Some, slice_get, refl, arith, suc, zero}

pub snoc-cases : {A : Type 0} (xs : List A) (y : A) (k : ℕ) (x : A) → slice_get (xs ++ y ∷ []) k ≡ Some x → ((k < length xs) × (slice_get xs k ≡ Some x)) ⊎ ((k ≡ length xs) × (y ≡ x))
snoc-cases [] y zero x h = inr (refl, cc)
snoc-cases [] y (suc k) x h = absurd cc
snoc-cases (z ∷ xs) y zero x h = inl (omega arith, h)
snoc-cases (z ∷ xs) y (suc k) x h =
    elim (snoc-cases xs y k x h) [ inl p ↦ inl (let q = p.0 in omega arith, p.1) | inr p ↦ inr (let q = p.0 in omega arith, p.1) ]

pub snoc-old : {A : Type 0} (xs : List A) (y : A) (k : ℕ) → k < length xs → slice_get (xs ++ y ∷ []) k ≡ slice_get xs k
snoc-old [] y k h = absurd (omega arith)
snoc-old (z ∷ xs) y zero h = refl
snoc-old (z ∷ xs) y (suc k) h = snoc-old xs y k (omega arith)

pub snoc-last : {A : Type 0} (xs : List A) (y : A) (k : ℕ) → k ≡ length xs → slice_get (xs ++ y ∷ []) k ≡ Some y
snoc-last [] y zero h = refl
snoc-last [] y (suc k) h = absurd (omega arith)
snoc-last (z ∷ xs) y zero h = absurd (omega arith)
snoc-last (z ∷ xs) y (suc k) h = snoc-last xs y k (omega arith)
