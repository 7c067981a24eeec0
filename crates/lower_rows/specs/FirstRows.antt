-- Cited by private clauses of `first_rows`: what the first row of some values says.
use Rattle.std.specs.Prelude.{ℕ, ◌==◌, Bool, false, List, [], ◌∷◌, if◌then◌else◌, Option, Some, None}
use Rattle.std.specs.Ordering.{nat_cmp}
use Rattle.std.specs.Cmp.Lexicographic.{slice_cmp}
use Rattle.std.specs.BTreeMap.{get_by}
use Rattle.cocoon_num.specs.Names.{same_name}
use Rattle.cocoon_num.specs.declared.fun_table.FunRow.{FunRow}
use Rattle.lower_rows.specs.declared.first_rows.FirstRows.{FirstRows}

-- what a table holds for some values
abbrev pub said_by : FirstRows → List ℕ → Option Bool
said_by t x = get_by (λ k. slice_cmp nat_cmp x k.items) t.said

-- a row says of its values whether its result is 1
abbrev pub noted : FunRow → List ℕ → Option Bool → Option Bool
noted row x before = if same_name x row.values then Some (row.result.value == 1) else before

-- the first row of the values decides
abbrev pub said_first : List FunRow → List ℕ → Option Bool
said_first [] x = None
said_first (row ∷ rows) x = noted row x (said_first rows x)

abbrev pub is_some_true : Option Bool → Bool
is_some_true None = false
is_some_true (Some b) = b
