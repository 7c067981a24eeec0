-- Cited by the clauses of `LaidRows`: which rows it holds, and what it answers.
use Rattle.std.specs.Prelude.{◌≡◌, ℕ, ◌==◌, List, get_or, if◌then◌else◌, length}
use Rattle.p4_ir.specs.P4Tree.{TableRows}
use Rattle.p4_ir.specs.Switch.{table_result}
use Rattle.row_search.specs.GroupsHeld as grouped
use Rattle.row_search.specs.declared.known_rows.KnownRows.{KnownRows}
use Rattle.row_search.specs.declared.laid.LaidRows.{LaidRows}
use Rattle.row_search.specs.declared.laid.Form.{Form}
use Rattle.row_search.specs.declared.laid.Form.TheVariants.{Plain, Known}

-- what those that can match answer where the key has the number, else what all answer
abbrev pub known_answer : KnownRows → (numbers : List ℕ) → ℕ
known_answer k xs = if get_or xs k.place 0 == k.number then grouped.looked_up k.matching xs else grouped.looked_up k.all xs

abbrev pub form_keys : Form → ℕ
form_keys (Plain g) = grouped.key_count g
form_keys (Known k) = grouped.key_count k.all

abbrev pub form_answer : Form → (numbers : List ℕ) → ℕ
form_answer (Plain g) xs = grouped.looked_up g xs
form_answer (Known k) xs = known_answer k xs

-- these are the rows of a table with so many keys, in one form
pub record FormHolds (count : ℕ) (f : Form) (r : TableRows) : Type 0 where
  pub many : form_keys f ≡ count
  pub answers : (xs : List ℕ) → length xs ≡ count → form_answer f xs ≡ table_result r.rows r.otherwise xs

-- how many keys the table has
abbrev pub key_count : LaidRows → ℕ
key_count l = form_keys l.form

-- what is found for the numbers in the keys
abbrev pub looked_up : LaidRows → (numbers : List ℕ) → ℕ
looked_up l xs = form_answer l.form xs

-- these are the rows of a table with so many keys: what is found is the definition's result, whatever the numbers are
abbrev pub Holds : (count : ℕ) → LaidRows → TableRows → Type 0
Holds count l r = FormHolds count l.form r
