-- Cited by the private clauses of `placing` and `parted`: the rows of one part, each with its place among all rows as its result.
use Rattle.std.specs.Prelude.{ℕ, suc, ◌==◌, List, [], ◌∷◌, if◌then◌else◌, map}
use Rattle.p4_ir.specs.P4Tree.{KeyRow}

-- the same row, with its place as its result
abbrev pub placed : (place : ℕ) → KeyRow → KeyRow
placed i r = record r { result = i }

-- the rows of a part, by the number of each row's part, where the first of these rows has this place
abbrev pub placed_in : (part place : ℕ) → (numbers : List ℕ) → List KeyRow → List KeyRow
placed_in part i [] rows = []
placed_in part i (n ∷ ns) [] = []
placed_in part i (n ∷ ns) (r ∷ rows) = if n == part then placed i r ∷ placed_in part (suc i) ns rows else placed_in part (suc i) ns rows

-- the results of some rows
abbrev pub results_of : List KeyRow → List ℕ
results_of rows = map (λ (r : KeyRow). r.result) rows
