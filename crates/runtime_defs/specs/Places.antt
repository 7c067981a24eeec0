-- Cited by the clauses of `Defs` and of all that looks functions up in tables: the places of a design's functions, one for
-- each in the order of declaration, with a table where the function is defined at run time.
use Rattle.std.specs.Prelude.{◌≡◌, ℕ, ◌≤◌, List, [], ◌∷◌, All, length, Option, Some, None}
use Rattle.cocoon_num.specs.FunTables.{HasKeys}
use Rattle.cocoon_num.specs.declared.fun_table.FunTable.{FunTable}
pub use Rattle.runtime_defs.specs.Printable.{all_fit_widths, table_at}
pub use Rattle.runtime_defs.specs.EntryPlaces.{result_value}

-- what stands for definitions: a table for each function, none for one with a body
abbrev pub Places : Type 0
Places = List (Option FunTable)

-- ---- shapes

-- each may be the width of a declaration
abbrev pub AllDeclared : List ℕ → Type 0
AllDeclared [] = Unit {0}
AllDeclared (w ∷ ws) = (1 ≤ w) × (w ≤ 64) × AllDeclared ws

-- the table's rows have as many values and masks as it has widths, and these are those of declarations
pub record HasShape (t : FunTable) : Type 0 where
  pub keys : All (HasKeys (length t.widths)) t.rows
  pub widths : AllDeclared t.widths

-- the table has this shape, where there is one
abbrev pub MayHaveShape : Option FunTable → Type 0
MayHaveShape None = Unit {0}
MayHaveShape (Some t) = HasShape t

-- ---- look-ups

-- the function of this number has a table, and so many arguments
pub record TakesArgs (places : Places) (function count : ℕ) : Type 0 where
  pub table : FunTable
  pub is_there : table_at places function ≡ Some table
  pub widths : length table.widths ≡ count
