-- Values that have no fraction, and that are shallow.
use Rattle.std.proofs.Common.{◌≡◌, ◌≤◌, ℕ, ℤ, pos, negsuc, List, [], ◌∷◌, map, false, ◌||◌, refl, ap₂, arith}
use Rattle.serde_json.specs.Data.{Data, depth, items_depth}
use Rattle.serde_json.specs.View.{items_of}
use Rattle.serde_json.specs.Written.{has_float, items_have_float}
use Rattle.json_forms.specs.Values.{number_data, integer_data}

-- a list whose values have no fraction
pub no_float : {A : Type 0} (f : A → Data) → ((x : A) → has_float (f x) ≡ false) → (xs : List A) → items_have_float (items_of (map f xs)) ≡ false
no_float f h [] = refl
no_float f h (x ∷ xs) = ap₂ (λ a b. a || b) (h x) (no_float f h xs)

pub number_plain : (n : ℕ) → has_float (number_data n) ≡ false
number_plain n = refl

pub integer_plain : (z : ℤ) → has_float (integer_data z) ≡ false
integer_plain (pos n) = refl
integer_plain (negsuc n) = refl

-- a list whose values are so deep at most
pub within : {A : Type 0} (f : A → Data) (n : ℕ) → ((x : A) → depth (f x) ≤ n) → (xs : List A) → items_depth (items_of (map f xs)) ≤ n
within f n h [] = omega arith
within f n h (x ∷ xs) = let a = h x in let b = within f n h xs in grind (arith, a, b)

pub number_flat : (n : ℕ) → depth (number_data n) ≤ 1
number_flat n = omega arith

pub integer_flat : (z : ℤ) → depth (integer_data z) ≤ 1
integer_flat (pos n) = omega arith
integer_flat (negsuc n) = omega arith
