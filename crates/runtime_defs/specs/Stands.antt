-- Cited by the clauses of `bind`, and by laws of values: the definitions that some tables stand for.
use Rattle.std.specs.Prelude.{◌≡◌, ℕ, true, List, Some, None, slice_get}
use Rattle.cocoon_num.specs.FunTables.{looked}
use Rattle.cocoon_num.specs.Tree.{FunctionDecl, Design}
use Rattle.cocoon_num.specs.declared.fun_table.FunTable.{FunTable}
use Rattle.cocoon_types.specs.Design.{functions}
use Rattle.cocoon_types.specs.Tables.{Defs, look_up}
use Rattle.runtime_defs.specs.Places.{Places, all_fit_widths, result_value, table_at}

-- the function of this number has a table, whose values at numbers that fit it are those of the definitions
pub record IsTableOf (places : Places) (defs : Defs) (n : ℕ) (g : FunctionDecl) : Type 0 where
  pub table : FunTable
  pub is_there : table_at places n ≡ Some table
  pub gives : (ns : List ℕ) → all_fit_widths table.widths ns ≡ true
      → look_up defs g.name.text ns ≡ Some (result_value g.result (looked table ns))

-- each function that is defined at run time has its table
abbrev pub Stands : Design → Places → Defs → Type 0
Stands design places defs =
    (n : ℕ) (g : FunctionDecl) → slice_get (functions design) n ≡ Some g → g.body ≡ None → IsTableOf places defs n g
