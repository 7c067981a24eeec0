-- Cited by the clauses of `tables_of`, and by laws: rows of which none repeats the values of another.
use Rattle.std.specs.Prelude.{ℕ, Bool, List, [], ◌∷◌, ◌++◌, fold, if◌then◌else◌}
use Rattle.std.specs.List.{list_any}
use Rattle.cocoon_num.specs.Names.{same_name}
use Rattle.cocoon_num.specs.declared.fun_table.FunRow.{FunRow}

abbrev pub has_values : List FunRow → List ℕ → Bool
has_values rows values = list_any (λ (row : FunRow). same_name row.values values) rows

-- a row is taken where its values stand first
abbrev pub with_row : List FunRow → FunRow → List FunRow
with_row rows row = if has_values rows row.values then rows else rows ++ row ∷ []

abbrev pub first_rows : List FunRow → List FunRow
first_rows rows = fold with_row [] rows
