-- Cited by the private clauses of `first_results` and `sorted`: rows as their values, each with its result.
use Rattle.std.specs.Prelude.{ℕ, List, [], ◌∷◌, drop, take, if◌then◌else◌, Option, Some}
use Rattle.std.specs.Cmp.Lexicographic.{slice_cmp}
use Rattle.std.specs.BTreeMap.{is_at}
use Rattle.std.specs.Map.{lookup}
use Rattle.std.specs.Ordering.{nat_cmp}
use Rattle.cocoon_num.specs.Names.{same_name}

-- the values of each row, which are so many, with its result
abbrev pub pairs_of : (count : ℕ) → (values results : List ℕ) → List (List ℕ × ℕ)
pairs_of count values [] = []
pairs_of count values (r ∷ rs) = (take count values, r) ∷ pairs_of count (drop count values) rs

-- the result beside the first values that are these
abbrev pub found : List (List ℕ × ℕ) → List ℕ → Option ℕ
found pairs xs = lookup (is_at (slice_cmp nat_cmp xs)) pairs

-- a result under its values, before others
abbrev pub noted : (values : List ℕ) → (result : ℕ) → List ℕ → Option ℕ → Option ℕ
noted values r xs others = if same_name xs values then Some r else others
