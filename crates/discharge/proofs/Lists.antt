-- Lists up to an item.
use Rattle.std.proofs.Common.{◌≡◌, ℕ, zero, suc, ◌+◌, ◌<◌, ◌≤◌, List, [], ◌∷◌, ◌++◌, length, take, Some, refl, ap, subst, ◌∙◌, arith}
use Rattle.std.specs.Prelude.{slice_get}
use Rattle.std.specs.List.{AllByRecursion}

pub at_there : {A : Type 0} (xs : List A) (i : ℕ) → i < length xs → (x : A) × (slice_get xs i ≡ Some x)
at_there [] i h = absurd (omega (arith, h))
at_there (x ∷ xs) zero h = (x, refl)
at_there (x ∷ xs) (suc i) h = at_there xs i (omega (arith, h))

pub take_next : {A : Type 0} (xs : List A) (i : ℕ) (x : A) → slice_get xs i ≡ Some x → take (i + 1) xs ≡ take i xs ++ x ∷ []
take_next [] i x h = absurd (cc)
take_next (y ∷ xs) zero x h = let e : y ≡ x = cc in ap (λ z. z ∷ []) e
take_next (y ∷ xs) (suc i) x h =
    ap (λ n. take n (y ∷ xs)) (let e : suc i + 1 ≡ suc (i + 1) = omega arith in e) ∙ ap (λ zs. y ∷ zs) (take_next xs i x h)

pub there_below : {A : Type 0} (xs : List A) (i : ℕ) (x : A) → slice_get xs i ≡ Some x → i < length xs
there_below [] i x h = absurd (cc)
there_below (y ∷ xs) zero x h = omega arith
there_below (y ∷ xs) (suc i) x h = let l = there_below xs i x h in omega (arith, l)

-- what holds of the first items holds of a list that is among them
pub front_all : {A : Type 0} (P : A → Type 0) (xs ys : List A) (i : ℕ) → ((k : ℕ) (x : A) → slice_get xs k ≡ Some x → slice_get ys k ≡ Some x) → length xs ≤ i → AllByRecursion P (take i ys) → AllByRecursion P xs
front_all P [] ys i same l h = tt
front_all P (x ∷ xs) [] i same l h = absurd (let e = same 0 x refl in cc)
front_all P (x ∷ xs) (y ∷ ys) zero same l h = absurd (omega (arith, l))
front_all P (x ∷ xs) (y ∷ ys) (suc i) same l h =
    let is : y ≡ x = (let e = same 0 x refl in cc) in
    (subst P is h.0, front_all P xs ys i (λ k z e. same (suc k) z e) (omega (arith, l)) h.1)
