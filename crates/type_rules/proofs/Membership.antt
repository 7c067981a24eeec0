-- Numbers and tests over lists that are put together.
use Rattle.std.proofs.Common.{◌≡◌, ℕ, ◌==◌, ◌&&◌, ◌||◌, Bool, true, false, not, List, [], ◌∷◌, ◌++◌, map, refl, ap, ◌∙◌}
use Rattle.std.proofs.Math.Bool.{or-false}
use Rattle.std.specs.List.{list_any, flat_map}
use Rattle.cocoon_num.specs.Lists.{has_number}
use Rattle.cocoon_types.specs.RuleParts.{unless}
use Rattle.cocoon_types.specs.TypeRules.{where_}

-- ---- truth values

pub or_assoc : (a b c : Bool) → (a || (b || c)) ≡ ((a || b) || c)
or_assoc true b c = refl
or_assoc false b c = refl

-- ---- numbers

pub number-append : (n : ℕ) (xs ys : List ℕ) → has_number n (xs ++ ys) ≡ (has_number n xs || has_number n ys)
number-append n [] ys = refl
number-append n (x ∷ xs) ys = ap (λ b. (n == x) || b) (number-append n xs ys) ∙ or_assoc (n == x) (has_number n xs) (has_number n ys)

pub number-flat_map : {A : Type 0} (n : ℕ) (f : A → List ℕ) (xs : List A) → has_number n (flat_map f xs) ≡ list_any (λ x. has_number n (f x)) xs
number-flat_map n f [] = refl
number-flat_map n f (x ∷ xs) = number-append n (f x) (flat_map f xs) ∙ ap (λ b. has_number n (f x) || b) (number-flat_map n f xs)

-- where one test fails
pub number-unless : (n : ℕ) (b : Bool) (at : ℕ) → has_number n (unless (not b) at) ≡ (b && (n == at))
number-unless n true at = or-false (n == at)
number-unless n false at = refl

-- where a test holds not
pub number-unless_not : (n : ℕ) (b : Bool) (at : ℕ) → has_number n (unless b at) ≡ (not b && (n == at))
number-unless_not n true at = refl
number-unless_not n false at = or-false (n == at)

-- where one of two tests fails, under a third
pub number-two : (n : ℕ) (c p q : Bool) (at more : ℕ)
    → has_number n (where_ c (unless (not p) at ++ unless (not q) more)) ≡ (((c && p) && (n == at)) || ((c && q) && (n == more)))
number-two n false p q at more = refl
number-two n true false false at more = refl
number-two n true true false at more = refl
number-two n true false true at more = or-false (n == more)
number-two n true true true at more = ap (λ b. (n == at) || b) (or-false (n == more))

-- where one test fails, under another
pub number-where : (n : ℕ) (c p : Bool) (at : ℕ) → has_number n (where_ c (unless (not p) at)) ≡ ((c && p) && (n == at))
number-where n false p at = refl
number-where n true p at = number-unless n p at

pub number-where_not : (n : ℕ) (c p : Bool) (at : ℕ) → has_number n (where_ c (unless p at)) ≡ ((c && not p) && (n == at))
number-where_not n false p at = refl
number-where_not n true p at = number-unless_not n p at

pub number-where_none : (n : ℕ) (c : Bool) → has_number n (where_ c []) ≡ false
number-where_none n true = refl
number-where_none n false = refl

-- ---- tests

module _ {A : Type 0} (p : A → Bool) where
  pub any-append : (xs ys : List A) → list_any p (xs ++ ys) ≡ (list_any p xs || list_any p ys)
  any-append [] ys = refl
  any-append (x ∷ xs) ys = ap (λ b. p x || b) (any-append xs ys) ∙ or_assoc (p x) (list_any p xs) (list_any p ys)

  pub any-map : {B : Type 0} (g : B → A) (xs : List B) → list_any p (map g xs) ≡ list_any (λ x. p (g x)) xs
  any-map g [] = refl
  any-map g (x ∷ xs) = ap (λ b. p (g x) || b) (any-map g xs)

  pub any-flat_map : {B : Type 0} (g : B → List A) (xs : List B) → list_any p (flat_map g xs) ≡ list_any (λ x. list_any p (g x)) xs
  any-flat_map g [] = refl
  any-flat_map g (x ∷ xs) = any-append (g x) (flat_map g xs) ∙ ap (λ b. list_any p (g x) || b) (any-flat_map g xs)

  pub any-same : (q : A → Bool) → ((x : A) → p x ≡ q x) → (xs : List A) → list_any p xs ≡ list_any q xs
  any-same q h [] = refl
  any-same q h (x ∷ xs) = λ i. h x i || any-same q h xs i
