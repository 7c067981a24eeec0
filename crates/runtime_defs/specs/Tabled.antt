-- Cited by the clauses of the laws, and by those of all that makes tables of definitions: which table of the code stands for that of
-- a function. It follows the section "Definitions" of docs/LANGUAGE.md.
use Rattle.std.specs.Prelude.{◌≡◌, ℕ, ◌-◌, ◌^◌, true, bit_and, if◌then◌else◌, is_some, map, Option, Some, None}
use Rattle.std.specs.List.{AllZip}
use Rattle.cocoon_num.specs.BitsOf.{value_of}
use Rattle.cocoon_num.specs.Tree.{FunctionDecl, Pattern, literal, masked, any, DefsText}
use Rattle.cocoon_num.specs.Values.{Value, number, truth}
use Rattle.cocoon_num.specs.declared.fun_table.FunRow.{FunRow}
use Rattle.cocoon_num.specs.declared.fun_table.FunTable.{FunTable}
use Rattle.cocoon_types.specs.Design.{widths_of}
use Rattle.cocoon_types.specs.Tables.{Row, Table, runtime_table}

-- ---- rows

-- the value of a pattern in the bits of its mask
abbrev pub pattern_value : Pattern → ℕ
pattern_value (literal w n) = n
pattern_value (masked w n v m) = bit_and n m
pattern_value any = 0

-- the bits that a pattern compares: all of a literal
abbrev pub pattern_mask : Pattern → ℕ
pattern_mask (literal w n) = 2 ^ w - 1
pattern_mask (masked w n v m) = m
pattern_mask any = 0

-- a truth value is a number of width 1
abbrev pub as_bits : Value → Value
as_bits (number w n) = number w n
as_bits (truth b) = number 1 (if b then 1 else 0)

-- the row of a table of the code stands for a row
pub record IsRow (r : Row) (row : FunRow) : Type 0 where
  pub values : row.values ≡ map pattern_value r.patterns
  pub masks : row.masks ≡ map pattern_mask r.patterns
  pub result : value_of row.result ≡ as_bits r.value

-- ---- tables

-- the table of the code stands for that of a function
pub record IsTable (f : FunctionDecl) (t : Table) (table : FunTable) : Type 0 where
  pub widths : table.widths ≡ widths_of f.params
  pub rows : AllZip IsRow t.rows table.rows
  pub default : value_of table.default ≡ as_bits t.otherwise

-- what stands at the place of a function: its table, or nothing where it has a body
abbrev pub IsPlace : DefsText → FunctionDecl → Option FunTable → Type 0
IsPlace es f None = is_some f.body ≡ true
IsPlace es f (Some table) = (t : Table) × (runtime_table es f ≡ Some t) × IsTable f t table
