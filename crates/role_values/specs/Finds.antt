-- Cited by the clause of `find`: which function a name stands for.
use Rattle.std.specs.Prelude.{◌≡◌, ℕ, ◌<◌, List, Option, Some, None, slice_get}
use Rattle.cocoon_num.specs.Tree.{FunctionDecl, Design}
use Rattle.cocoon_num.specs.declared.fun_table.FunTable.{FunTable}
use Rattle.cocoon_types.specs.Design.{functions}
use Rattle.role_values.specs.ByTables.{apply_by, called, earlier, table_at}

-- The name stands for the function of this number among the first: their values under the name are its values.
pub record FindsAt (d : Design) (tables : List (Option FunTable)) (before : ℕ) (f : List ℕ) (n : ℕ) : Type 0 where
  pub within : n < before
  pub gives : (g : FunctionDecl) (ns : List ℕ) → slice_get (functions d) n ≡ Some g
      → apply_by tables (earlier d before) f ns ≡ called (apply_by tables (earlier d n)) (table_at tables n) g ns

-- that, or it stands for none
abbrev pub Finds : Design → List (Option FunTable) → ℕ → List ℕ → Option ℕ → Type 0
Finds d tables before f None = (ns : List ℕ) → apply_by tables (earlier d before) f ns ≡ None
Finds d tables before f (Some n) = FindsAt d tables before f n
