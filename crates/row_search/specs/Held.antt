-- Cited by the clauses of `FlatRows`: which rows it holds, and what it answers.
use Rattle.std.specs.Prelude.{◌≡◌, ℕ, Bool, List, length, unwrap_or}
use Rattle.cocoon_num.specs.Names.{same_name}
use Rattle.p4_ir.specs.P4Tree.{KeyRow, TableRows}
use Rattle.p4_ir.specs.Switch.{table_result}
use Rattle.row_search.specs.Laid.{masked}
use Rattle.row_search.specs.Pairs.{found, pairs_of}
use Rattle.row_search.specs.Scanned.{scanned}
use Rattle.row_search.specs.declared.flat.FlatRows.{FlatRows}
use Rattle.row_search.specs.declared.flat.Form.{Form}
use Rattle.row_search.specs.declared.flat.Form.TheVariants.{Scanned, Sorted}

abbrev pub form_count : Form → ℕ
form_count (Scanned s) = s.count
form_count (Sorted s) = length s.masks.items

abbrev pub form_answer : Form → (otherwise : ℕ) → (numbers : List ℕ) → ℕ
form_answer (Scanned s) otherwise xs = scanned s.count s.tests.items s.results.items otherwise xs
form_answer (Sorted s) otherwise xs =
    unwrap_or (found (pairs_of (length s.masks.items) s.values.items s.results.items) (masked s.masks.items xs)) otherwise

-- it has so many keys, and answers as the rows do
pub record FormAnswers (count : ℕ) (f : Form) (otherwise : ℕ) (rows : List KeyRow) : Type 0 where
  pub many : form_count f ≡ count
  pub answers : (xs : List ℕ) → length xs ≡ count → form_answer f otherwise xs ≡ table_result rows otherwise xs

-- the row has these masks
abbrev pub share_masks : List ℕ → KeyRow → Bool
share_masks masks r = same_name r.masks masks

-- how many keys the table has
abbrev pub key_count : FlatRows → ℕ
key_count f = form_count f.form

-- what is found for the numbers in the keys
abbrev pub looked_up : FlatRows → (numbers : List ℕ) → ℕ
looked_up f xs = form_answer f.form f.default xs

-- these are the rows of a table with so many keys: what is found is the definition's result, whatever the numbers are
pub record Holds (count : ℕ) (f : FlatRows) (r : TableRows) : Type 0 where
  pub many : key_count f ≡ count
  pub answers : (xs : List ℕ) → length xs ≡ count → looked_up f xs ≡ table_result r.rows r.otherwise xs
