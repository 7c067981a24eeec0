-- Lists of numbers: what holds of each, and ascending ones.
use Rattle.std.proofs.Common.{◌≡◌, ℕ, ◌<◌, Bool, true, List, [], ◌∷◌, ◌++◌, nat_lt, refl, arith}
use Rattle.std.proofs.lemmas.Bool.{and_from, and_parts, lt-ltb, ltb-true}
use Rattle.cocoon_num.specs.Lists.{each, ascend}

-- what holds of each of two lists holds of each of both
pub each_append : {A : Type 0} (f : A → Bool) (xs ys : List A) → each f xs ≡ true → each f ys ≡ true → each f (xs ++ ys) ≡ true
each_append f [] ys h g = g
each_append f (x ∷ xs) ys h g =
    let parts = and_parts (f x) (each f xs) h in
    and_from (f x) _ parts.0 (each_append f xs ys parts.1 g)

-- the first of an ascending list is below each further one
pub first_below : (x : ℕ) (xs : List ℕ) → ascend (x ∷ xs) ≡ true → each (nat_lt x) xs ≡ true
first_below x [] h = refl
first_below x (y ∷ ys) h =
    let parts = and_parts (nat_lt x y) (ascend (y ∷ ys)) h in
    and_from (nat_lt x y) _ parts.0 (all_above x y ys (ltb-true x y parts.0) (first_below y ys parts.1))
  where
    all_above : (x y : ℕ) (zs : List ℕ) → x < y → each (nat_lt y) zs ≡ true → each (nat_lt x) zs ≡ true
    all_above x y [] lt h = refl
    all_above x y (z ∷ zs) lt h =
        let parts = and_parts (nat_lt y z) (each (nat_lt y) zs) h in
        let further : y < z = ltb-true y z parts.0 in
        and_from (nat_lt x z) _ (lt-ltb x z (omega arith)) (all_above x y zs lt parts.1)

-- the others ascend too
pub others_ascend : (x : ℕ) (xs : List ℕ) → ascend (x ∷ xs) ≡ true → ascend xs ≡ true
others_ascend x [] h = refl
others_ascend x (y ∷ ys) h = (and_parts (nat_lt x y) (ascend (y ∷ ys)) h).1
