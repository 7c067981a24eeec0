-- Cited by all clauses about the numbers of a line. It follows the section "Lines" of docs/FORMATS.md.
use Rattle.std.specs.Prelude.{ℕ, ◌^◌, nat_le, nat_lt, length, Bool, false, if◌then◌else◌, List, [], ◌∷◌, codes, Option, Some, None, option_and_then, option_map}
use Rattle.cocoon_num.specs.Names.{same_name}
use Rattle.cocoon_num.specs.Tokens.{decimal_value, kept_if}

-- the most digits that a number may have
abbrev pub most_digits : ℕ
most_digits = 20

-- the number that a part is, of one digit to so many, below 2^64
abbrev pub part_number : List ℕ → Option ℕ
part_number part =
    if nat_le (length part) most_digits
    then option_and_then (λ n. kept_if (nat_lt n (2 ^ 64)) n) (decimal_value part)
    else None

-- those of some parts, where each is a number
abbrev pub numbers_of : List (List ℕ) → Option (List ℕ)
numbers_of [] = Some []
numbers_of (part ∷ parts) =
    option_and_then (λ n. option_map (λ ns. n ∷ ns) (numbers_of parts)) (part_number part)

-- the parts are the one part `-`
abbrev pub is_dash : List (List ℕ) → Bool
is_dash (part ∷ []) = same_name part (codes "-")
is_dash parts = false

-- The list that some parts are: a number each; or `-` alone, which is the list without numbers.
abbrev pub list_of : List (List ℕ) → Option (List ℕ)
list_of parts = if is_dash parts then Some [] else numbers_of parts
