-- Cited by the private clauses of `laying`, `scanned`, `first_results` and `sorted`: parts of rows, laid side by side.
use Rattle.std.specs.Prelude.{◌≡◌, ℕ, ◌*◌, ◌<◌, List, [], ◌∷◌, ◌++◌, bit_and, drop, map, take}
use Rattle.std.specs.Cmp.Lexicographic.{slice_cmp}
use Rattle.std.specs.Ordering.{nat_cmp}
use Rattle.std.specs.declared.cmp.Ordering.TheVariants.{Less}
use Rattle.p4_ir.specs.P4Tree.{KeyRow}

-- the results of some rows
abbrev pub results_of : List KeyRow → List ℕ
results_of rows = map (λ (r : KeyRow). r.result) rows

-- numbers, each in the bits of its mask
abbrev pub masked : (masks numbers : List ℕ) → List ℕ
masked [] numbers = []
masked (m ∷ ms) [] = []
masked (m ∷ ms) (x ∷ xs) = bit_and x m ∷ masked ms xs

-- the values of some rows, each in the bits of these masks
abbrev pub masked_values : List ℕ → List KeyRow → List ℕ
masked_values masks [] = []
masked_values masks (r ∷ rows) = masked masks r.values ++ masked_values masks rows

-- those of the row at an index, where each row has so many
abbrev pub laid_at : (count : ℕ) → List ℕ → ℕ → List ℕ
laid_at count values i = take count (drop (i * count) values)

-- so many lists ascend
abbrev pub Ascend : (ℕ → List ℕ) → ℕ → Type 0
Ascend values n = (i j : ℕ) → i < j → j < n → slice_cmp nat_cmp (values i) (values j) ≡ Less
