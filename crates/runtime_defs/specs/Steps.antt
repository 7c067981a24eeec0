-- Cited by private clauses: the rows of tables, part by part, and what tables are made of.
use Rattle.std.specs.Prelude.{◌≡◌, ℕ, ◌<◌, ◌≤◌, true, List, All, filter_map, is_some, Some}
use Rattle.cocoon_num.specs.Lists.{first_of}
use Rattle.cocoon_num.specs.Tree.{FunctionDecl, Pattern, literal, masked, any, Entry, DefsText}
use Rattle.cocoon_num.specs.Values.{Value}
use Rattle.cocoon_num.specs.declared.fun_table.FunRow.{FunRow}
use Rattle.cocoon_types.specs.Design.{widths_of}
use Rattle.cocoon_types.specs.Tables.{Row, default_of, row_of}
use Rattle.runtime_defs.specs.Bound.{IsRow, pattern_mask, pattern_value}

-- ---- rows

-- the value and the mask of a pattern
pub record IsKey (p : Pattern) (value mask : ℕ) : Type 0 where
  pub value_is : value ≡ pattern_value p
  pub mask_is : mask ≡ pattern_mask p

-- the row of a table of the code stands for a row with these patterns and this value
abbrev pub HasRow : List Pattern → Value → FunRow → Type 0
HasRow ps v row = IsRow (record { patterns = ps; value = v }) row

-- ---- what tables are made of

-- the pattern's numbers have at most 64 bits
abbrev pub IsNarrow : Pattern → Type 0
IsNarrow (literal w n) = w ≤ 64
IsNarrow (masked w n v m) = (w ≤ 64) × (v ≤ 64)
IsNarrow any = Unit {0}

-- those of the entry have, where it is a row of this function
abbrev pub RowIsNarrow : List ℕ → Entry → Type 0
RowIsNarrow f e = (r : Row) → row_of f e ≡ Some r → All IsNarrow r.patterns

-- the number fits 8 bits
abbrev pub IsByte : ℕ → Type 0
IsByte n = n < 256

-- the entries have a default of the function, and rows and widths that a table can hold
pub record IsDefined (f : FunctionDecl) (es : DefsText) : Type 0 where
  pub default : is_some (first_of (filter_map (default_of f.name.text) es)) ≡ true
  pub rows : All (RowIsNarrow f.name.text) es
  pub widths : All IsByte (widths_of f.params)
