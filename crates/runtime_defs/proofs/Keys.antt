-- Rows that are found by their values.
use Rattle.std.proofs.Common.{◌≡◌, ℕ, suc, ◌||◌, Bool, true, false, not, List, [], ◌∷◌, ◌++◌, Option, Some, None, is_none, is_some, refl, sym, ap, ◌∙◌}
use Rattle.std.specs.Prelude.{if◌then◌else◌, option_map}
use Rattle.std.proofs.lemmas.Bool.{cond-true, cond-false}
use Rattle.std.proofs.lemmas.List.{map-append}
use Rattle.cocoon_num.specs.Names.{same_name}
use Rattle.cocoon_num.specs.declared.fun_table.FunRow.{FunRow}
use Rattle.numbering.specs.KeyPlaces.{first_place}
use Rattle.numbering.proofs.NameFacts.{same-symm}
use Rattle.runtime_defs.specs.RowKeys.{row_keys}
use Rattle.runtime_defs.specs.FirstRows.{has_values, with_row}

none-later : (o : Option ℕ) → is_none (option_map suc o) ≡ is_none o
none-later None = refl
none-later (Some n) = refl

first-or-later : (b : Bool) (o : Option ℕ) (h : Bool) → is_none o ≡ not h → is_none (if b then Some 0 else option_map suc o) ≡ not (b || h)
first-or-later true o h e = refl
first-or-later false o h e = none-later o ∙ e

pub place-test : (rows : List FunRow) (x : List ℕ) → is_none (first_place x (row_keys rows)) ≡ not (has_values rows x)
place-test [] x = refl
place-test (r ∷ rows) x =
    first-or-later (same_name x r.values) (first_place x (row_keys rows)) (has_values rows x) (place-test rows x)
    ∙ ap (λ b. not (b || has_values rows x)) (same-symm x r.values)

was-there : (b : Bool) → not b ≡ false → b ≡ true
was-there true h = refl
was-there false h = absurd cc

was-new : (b : Bool) → not b ≡ true → b ≡ false
was-new true h = absurd cc
was-new false h = refl

pub kept_row : (rows : List FunRow) (row : FunRow) → not (has_values rows row.values) ≡ false → rows ≡ with_row rows row
kept_row rows row h = sym (cond-true (has_values rows row.values) rows (rows ++ row ∷ []) (was-there (has_values rows row.values) h))

pub new_row : (rows : List FunRow) (row : FunRow) → not (has_values rows row.values) ≡ true → rows ++ row ∷ [] ≡ with_row rows row
new_row rows row h = sym (cond-false (has_values rows row.values) rows (rows ++ row ∷ []) (was-new (has_values rows row.values) h))

pub keys_more : (rows : List FunRow) (row : FunRow) → row_keys (rows ++ row ∷ []) ≡ row_keys rows ++ row.values ∷ []
keys_more rows row = map-append (λ (r : FunRow). r.values) rows (row ∷ [])

-- what `is_none` says
pub turned : (o : Option ℕ) (r : Bool) → is_some o ≡ not r → r ≡ is_none o
turned None true h = refl
turned None false h = absurd cc
turned (Some n) true h = absurd cc
turned (Some n) false h = refl
