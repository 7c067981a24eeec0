-- Cited by the private clauses of `search`: what a search among rows in order gives.
use Rattle.std.specs.Prelude.{◌≡◌, ◌⊎◌, ℕ, ◌<◌, List, length, Option, Some, None}
use Rattle.std.specs.Cmp.Lexicographic.{slice_cmp}
use Rattle.std.specs.Ordering.{nat_cmp}
use Rattle.std.specs.declared.cmp.Ordering.{Ordering}
use Rattle.std.specs.declared.cmp.Ordering.TheVariants.{Equal}
use Rattle.row_search.specs.Keyed.{keyed}
use Rattle.row_search.specs.Laid.{laid_at, masked}
use Rattle.row_search.specs.declared.sorted.SortedRows.{SortedRows}

-- the values of the row at an index
abbrev pub values_at : SortedRows → ℕ → List ℕ
values_at s i = laid_at (length s.masks.items) s.values.items i

-- the numbers in some keys, in the bits of the masks
abbrev pub asked : SortedRows → (meta keys : List ℕ) → List ℕ
asked s meta keys = masked s.masks.items (keyed meta keys)

-- the index of a row, of so many, that has these values, if there is one
abbrev pub Searched : (values : ℕ → List ℕ) → (count : ℕ) → List ℕ → Option ℕ → Type 0
Searched values n xs None = (i : ℕ) → i < n → slice_cmp nat_cmp (values i) xs ≡ Equal → ⊥
Searched values n xs (Some i) = (i < n) × (slice_cmp nat_cmp (values i) xs ≡ Equal)

-- a comparison of the first values tells what all tell: it finds them unequal, or there are no others
abbrev pub IsTelling : Ordering → (count : ℕ) → Type 0
IsTelling found count = (found ≡ Equal → ⊥) ⊎ (count ≡ 1)
