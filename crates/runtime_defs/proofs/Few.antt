-- How many functions a design within the limits has.
use Rattle.std.proofs.Common.{◌≡◌, ℕ, ◌≤◌, ◌<◌, List, slice_get, Option, is_some, sym, Bool, true, false, [], ◌∷◌, length, Some, None, refl, arith, nat_lt, if◌then◌else◌}
use Rattle.std.proofs.lemmas.Bool.Decides.{nat_tests}
use Rattle.std.specs.Prelude.{option_map}
use Rattle.std.proofs.lemmas.Option.{slice_get_within}
use Rattle.cocoon_num.specs.Tree.{Design}
use Rattle.cocoon_types.specs.Design.{functions}
use Rattle.cocoon_types.specs.Limits.{first_above}
use Rattle.cocoon_resolve.specs.Resolved.{Resolves}

below : (m n : ℕ) → first_above m (n ∷ []) ≡ None → n ≤ m
below m n e = by (nat_lt m n) refl e
  where
    by : (b : Bool) → nat_lt m n ≡ b → (if b then Some n else None) ≡ None → n ≤ m
    by true l e = absurd cc
    by false l e = grind (arith, nat_tests, l)

pub few-functions : (d : Design) → Resolves d → length (functions d) ≤ 128
few-functions d h = below 128 (length (functions d)) h.limits.1.1.1.1.0

-- a number of which there is an item
pub some-within : {A B : Type 0} (g : A → B) (o : Option A) (xs : List B) (n m : ℕ) → option_map g o ≡ slice_get xs n → is_some o ≡ true → length xs ≡ m → m ≤ 128 → n < 128
some-within g None xs n m h k e l = absurd cc
some-within g (Some a) xs n m h k e l = let w : n < length xs = slice_get_within xs n (g a) (sym h) in omega (arith, w, e, l)
