-- Cited by the private clauses of `parted`: the place of the first row that matches, and the least place that parts find.
use Rattle.std.specs.Prelude.{◌≡◌, ℕ, suc, ◌==◌, ◌&&◌, Bool, nat_lt, List, [], ◌∷◌, if◌then◌else◌, length}
use Rattle.cocoon_num.specs.Rows.{values_match}
use Rattle.p4_ir.specs.P4Tree.{KeyRow}
use Rattle.row_search.specs.Held.{looked_up}
use Rattle.row_search.specs.declared.flat.FlatRows.{FlatRows}

-- the place of the first row that matches, of those whose part passes a test; another place where there is none
abbrev pub first_in : (test : ℕ → Bool) → (xs : List ℕ) → (place none : ℕ) → (numbers : List ℕ) → List KeyRow → ℕ
first_in test xs i none [] rows = none
first_in test xs i none (n ∷ ns) [] = none
first_in test xs i none (n ∷ ns) (r ∷ rows) = if test n && values_match r.values r.masks xs then i else first_in test xs (suc i) none ns rows

abbrev pub earlier : ℕ → ℕ → ℕ
earlier i j = if nat_lt j i then j else i

-- the least of a place and those that parts find
abbrev pub least_place : (place : ℕ) → List FlatRows → (xs : List ℕ) → ℕ
least_place i [] xs = i
least_place i (f ∷ fs) xs = least_place (earlier i (looked_up f xs)) fs xs

-- it finds the place of the first row that matches, of those in this part, whatever the numbers are
abbrev pub FindsPlace : (count part : ℕ) → (numbers : List ℕ) → List KeyRow → FlatRows → Type 0
FindsPlace count part numbers rows f =
    (xs : List ℕ) → length xs ≡ count → looked_up f xs ≡ first_in (λ n. n == part) xs 0 (length rows) numbers rows

-- the same of several parts, whose numbers pass a test
abbrev pub FindPlaces : (count : ℕ) → (test : ℕ → Bool) → (numbers : List ℕ) → List KeyRow → List FlatRows → Type 0
FindPlaces count test numbers rows parts =
    (xs : List ℕ) → length xs ≡ count → least_place (length rows) parts xs ≡ first_in test xs 0 (length rows) numbers rows
