-- Cited by the clauses of `tables_of`: the tables of what functions gave.
use Rattle.std.specs.Prelude.{◌≡◌, ℕ, true, List, Option, Some, slice_get}
use Rattle.std.specs.List.{AllByRecursion}
use Rattle.cocoon_num.specs.Tree.{FunctionDecl, Design}
use Rattle.cocoon_num.specs.declared.fun_table.FunTable.{FunTable}
use Rattle.cocoon_types.specs.Design.{functions, widths_of}
use Rattle.runtime_defs.specs.Printable.{all_fit_widths, result_width, table_at}
use Rattle.runtime_defs.specs.FirstRows.{first_rows}
use Rattle.runtime_defs.specs.LookupRows.{rows_for}
use Rattle.runtime_defs.specs.declared.lookups.Lookup.{Lookup}

-- a function of the design gave this, at arguments that fit it
pub record IsOfDesign (d : Design) (l : Lookup) : Type 0 where
  pub function : FunctionDecl
  pub there : slice_get (functions d) l.function ≡ Some function
  pub args : all_fit_widths (widths_of function.params) l.args ≡ true
  pub result : l.result.width ≡ result_width function.result

abbrev pub AreOfDesign : Design → List Lookup → Type 0
AreOfDesign d lookups = AllByRecursion (IsOfDesign d) lookups

-- each table has the first row at each list of arguments of its function
abbrev pub HaveFirstRows : List Lookup → List (Option FunTable) → Type 0
HaveFirstRows lookups tables =
    (f : ℕ) (t : FunTable) → table_at tables f ≡ Some t → t.rows ≡ first_rows (rows_for t.widths f lookups)
