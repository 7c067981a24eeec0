-- Cited by the private clauses of `scanned`: rows as the tests of their keys, one row after another.
use Rattle.std.specs.Prelude.{ℕ, ◌==◌, ◌&&◌, Bool, true, false, List, [], ◌∷◌, ◌++◌, bit_and, drop, if◌then◌else◌}
use Rattle.p4_ir.specs.P4Tree.{KeyRow}
use Rattle.row_search.specs.declared.scanned.KeyTest.{KeyTest}

-- the tests of a row with these values and masks
abbrev pub row_tests : (values masks : List ℕ) → List KeyTest
row_tests values [] = []
row_tests [] (m ∷ ms) = []
row_tests (v ∷ vs) (m ∷ ms) = record { mask = m; value = bit_and v m } ∷ row_tests vs ms

abbrev pub rows_tests : List KeyRow → List KeyTest
rows_tests [] = []
rows_tests (r ∷ rows) = row_tests r.values r.masks ++ rows_tests rows

-- the numbers are those that the first tests ask for
abbrev pub fits : List KeyTest → (numbers : List ℕ) → Bool
fits tests [] = true
fits [] (x ∷ xs) = false
fits (t ∷ tests) (x ∷ xs) = (bit_and x t.mask == t.value) && fits tests xs

-- the result of the first row that the numbers fit, where each has so many tests, else another
abbrev pub scanned : (count : ℕ) → List KeyTest → (results : List ℕ) → (otherwise : ℕ) → (numbers : List ℕ) → ℕ
scanned count tests [] otherwise xs = otherwise
scanned count tests (r ∷ rs) otherwise xs = if fits tests xs then r else scanned count (drop count tests) rs otherwise xs
