-- Cited by private clauses of `fork_args` and `table_groups`: the members of the groups of a table, and the groups.
use Rattle.std.specs.Prelude.{◌≡◌, ℕ, ◌==◌, ◌&&◌, Bool, List, [], ◌∷◌, ◌++◌, map, flat_map, if◌then◌else◌}
use Rattle.cocoon_num.specs.FunTables.{looked}
use Rattle.cocoon_num.specs.Names.{same_name}
use Rattle.cocoon_num.specs.declared.fun_table.FunRow.{FunRow}
use Rattle.cocoon_num.specs.declared.fun_table.FunTable.{FunTable}
use Rattle.lowering_correct.specs.Groups.{ascending, before_last, Grouped, last_of, where_members}
use Rattle.lower_rows.specs.FirstRows.{is_some_true, said_first}

-- the arguments before the choice, of each row
abbrev pub row_args : List FunRow → List (List ℕ)
row_args rows = map (λ (row : FunRow). before_last row.values) rows

-- the choice of a row, where it has these arguments and is true by this test
abbrev pub choice_by : (List ℕ → Bool) → List ℕ → FunRow → List ℕ
choice_by is_true args row = if same_name args (before_last row.values) && is_true row.values then last_of row.values ∷ [] else []

-- the choices of rows with these arguments
abbrev pub members_by : (List ℕ → Bool) → List FunRow → List ℕ → List ℕ
members_by is_true rows args = ascending (flat_map (choice_by is_true args) rows)

-- by the first row of the values
abbrev pub true_first : List FunRow → List ℕ → Bool
true_first rows x = is_some_true (said_first rows x)

-- the groups of some arguments with these members
abbrev pub grouped_with : List (List ℕ) → List (List ℕ) → List Grouped
grouped_with (args ∷ more) (ms ∷ rest) = where_members args ms ++ grouped_with more rest
grouped_with _ _ = []

-- the first row of its values says what the table gives there
abbrev pub IsDecided : FunTable → FunRow → Type 0
IsDecided t row = true_first t.rows row.values ≡ ((looked t row.values).value == 1)
