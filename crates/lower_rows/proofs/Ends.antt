-- The last number of a row, and those before it.
use Rattle.std.proofs.Common.{◌≡◌, ℕ, List, [], ◌∷◌, ◌++◌, refl, ap}
use Rattle.lowering_correct.specs.Groups.{before_last, last_of}

before-last-from : (m : ℕ) (xs : List ℕ) (x : ℕ) → m ∷ xs ≡ before_last (m ∷ (xs ++ x ∷ []))
before-last-from m [] x = refl
before-last-from m (y ∷ xs) x = ap (λ (ys : List ℕ). m ∷ ys) (before-last-from y xs x)

pub before-last-is : (xs : List ℕ) (x : ℕ) → xs ≡ before_last (xs ++ x ∷ [])
before-last-is [] x = refl
before-last-is (y ∷ xs) x = before-last-from y xs x

last-from : (m : ℕ) (xs : List ℕ) (x : ℕ) → x ≡ last_of (m ∷ (xs ++ x ∷ []))
last-from m [] x = refl
last-from m (y ∷ xs) x = last-from y xs x

pub last-is : (xs : List ℕ) (x : ℕ) → x ≡ last_of (xs ++ x ∷ [])
last-is [] x = refl
last-is (y ∷ xs) x = last-from y xs x
