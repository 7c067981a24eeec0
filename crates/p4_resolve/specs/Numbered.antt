-- Cited by private clauses: digits that are written as `decimal` writes their value, of which there are at most 64.
use Rattle.std.specs.Prelude.{ℕ, ◌-◌, ◌==◌, ◌&&◌, ◌||◌, ◌^◌, Bool, false, not, nat_le, nat_lt, List, [], ◌∷◌, length, Option}
use Rattle.cocoon_num.specs.Lists.{each}
use Rattle.cocoon_num.specs.Tokens.{is_digit, kept_if}

abbrev pub begins_with : ℕ → List ℕ → Bool
begins_with x [] = false
begins_with x (b ∷ bs) = b == x

abbrev pub is_canonical : List ℕ → Bool
is_canonical ds = each is_digit ds && not (length ds == 0) && (not (begins_with 48 ds) || (length ds == 1)) && nat_le (length ds) 64

-- a table may have this number: it is below the largest of 32 bits
abbrev pub is_small : ℕ → Bool
is_small n = nat_lt n (2 ^ 32 - 1)

abbrev pub small : ℕ → Option ℕ
small n = kept_if (is_small n) n
