-- Cited by the clauses of `GroupedRows`: which rows it holds, and what it answers.
use Rattle.std.specs.Prelude.{◌≡◌, ℕ, List, get_or, length}
use Rattle.p4_ir.specs.P4Tree.{TableRows}
use Rattle.p4_ir.specs.Switch.{table_result}
use Rattle.row_search.specs.Held as flat
use Rattle.row_search.specs.Least.{least_place}
use Rattle.row_search.specs.declared.grouped.GroupedRows.{GroupedRows}
use Rattle.row_search.specs.declared.grouped.Form.{Form}
use Rattle.row_search.specs.declared.grouped.Form.TheVariants.{Whole, Parted}
use Rattle.row_search.specs.declared.parts.PartedRows.{PartedRows}

-- the result at the least place that is found
abbrev pub parted_answer : PartedRows → (numbers : List ℕ) → ℕ
parted_answer p xs = get_or p.results.items (least_place (length p.results.items) p.parts.items xs) p.default

abbrev pub form_keys : Form → ℕ
form_keys (Whole f) = flat.key_count f
form_keys (Parted p) = p.count

abbrev pub form_answer : Form → (numbers : List ℕ) → ℕ
form_answer (Whole f) xs = flat.looked_up f xs
form_answer (Parted p) xs = parted_answer p xs

-- these are the rows of a table with so many keys, in one form
pub record FormHolds (count : ℕ) (f : Form) (r : TableRows) : Type 0 where
  pub many : form_keys f ≡ count
  pub answers : (xs : List ℕ) → length xs ≡ count → form_answer f xs ≡ table_result r.rows r.otherwise xs

-- how many keys the table has
abbrev pub key_count : GroupedRows → ℕ
key_count g = form_keys g.form

-- what is found for the numbers in the keys
abbrev pub looked_up : GroupedRows → (numbers : List ℕ) → ℕ
looked_up g xs = form_answer g.form xs

-- these are the rows of a table with so many keys: what is found is the definition's result, whatever the numbers are
abbrev pub Holds : (count : ℕ) → GroupedRows → TableRows → Type 0
Holds count g r = FormHolds count g.form r
