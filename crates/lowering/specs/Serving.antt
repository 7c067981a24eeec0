-- Cited by the laws of visits and of rows: when the rows of a switch serve a program, that is, give the values of the functions
-- that its tables hold, and the groups of its forks.
use Rattle.std.specs.Prelude.{◌≡◌, ℕ, Bool, true, false, List, [], ◌∷◌, ◌++◌, Option, Some, None}
use Rattle.cocoon_num.specs.Lists.{has_number}
use Rattle.cocoon_num.specs.Tree.{Param}
use Rattle.cocoon_num.specs.Values.{Value, number, truth}
use Rattle.cocoon_types.specs.Tables.{look_up}
use Rattle.p4_ir.specs.P4Tree.{RowsFile, TableRows}
use Rattle.p4_ir.specs.Switch.{members, rows_numbered, table_result}
use Rattle.lowering.specs.Agrees.{Filling, FitAll, code_of}
use Rattle.lowering.specs.Lower.{Made, a_field, a_table, a_group, params_before_last}

-- the rows of a table give the values of its function, or the numbers of its groups
abbrev pub Serves : Filling → RowsFile → Made → Type 0
Serves fill rows (a_field x i w) = Unit {0}
Serves fill rows (a_table t f ps) =
    (r : TableRows) × (rows_numbered rows.tables t.number ≡ Some r)
    × ((ns : List ℕ) (v : Value) → FitAll ps ns → look_up fill.defs f ns ≡ Some v → table_result r.rows r.otherwise ns ≡ code_of v)
Serves fill rows (a_group t f ps) =
    (r : TableRows) × (rows_numbered rows.tables t.number ≡ Some r)
    × ((ns : List ℕ) → FitAll ps ns → table_result r.rows r.otherwise ns ≡ fill.group f ns)

abbrev pub AllServe : Filling → RowsFile → List Made → Type 0
AllServe fill rows [] = Unit {0}
AllServe fill rows (m ∷ ms) = Serves fill rows m × AllServe fill rows ms

-- it is the true value
abbrev pub is_true : Option Value → Bool
is_true (Some (truth b)) = b
is_true _ = false

-- the members of a function's group at some arguments are the choices at which it is true
abbrev pub GroupsServe : Filling → RowsFile → List ℕ → List Param → Type 0
GroupsServe fill rows f ps =
    (ns : List ℕ) (x : ℕ) → FitAll ps (ns ++ (x ∷ []))
    → has_number x (members rows.groups (fill.group f ns)) ≡ is_true (look_up fill.defs f (ns ++ (x ∷ [])))

-- and they fit the function's last parameter
abbrev pub MembersFit : Filling → RowsFile → List ℕ → List Param → Type 0
MembersFit fill rows f ps =
    (ns : List ℕ) (x : ℕ) → FitAll (params_before_last ps) ns
    → has_number x (members rows.groups (fill.group f ns)) ≡ true → FitAll ps (ns ++ (x ∷ []))
