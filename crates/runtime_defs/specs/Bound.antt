-- Cited by the clauses of `bind`: what the tables of the code stand for, and which
-- definitions are refused. It follows the section "Definitions" of docs/LANGUAGE.md.
use Rattle.std.specs.Prelude.{◌≡◌, ℕ, ◌+◌, ◌<◌, ◌≤◌, [], ◌∷◌, Some}
use Rattle.std.specs.List.{AllZip}
use Rattle.cocoon_num.specs.Tree.{a_default, a_row, DefsText, Design}
use Rattle.cocoon_types.specs.DefsRules.{DefsFit}
use Rattle.cocoon_types.specs.Design.{functions}
pub use Rattle.runtime_defs.specs.Tabled.{as_bits, IsPlace, IsRow, IsTable, pattern_mask, pattern_value}
use Rattle.runtime_defs.specs.declared.fault.DefsFault.{DefsFault}
use Rattle.runtime_defs.specs.declared.fault.DefsFault.TheVariants.{Limit, NoMemory}
use Rattle.runtime_defs.specs.Faults.{FirstFault}
use Rattle.runtime_defs.specs.Places.{Places}

-- how many entries are rows
abbrev pub row_count : DefsText → ℕ
row_count [] = 0
row_count (a_default f v ∷ es) = row_count es
row_count (a_row f ps v ∷ es) = 1 + row_count es

-- the most rows that definitions may have
abbrev pub most_rows : ℕ
most_rows = 8192

-- ---- definitions

-- The definitions of a text that fits the design and is within the limit: a place for each function, in the order of
-- declaration.
pub record IsBound (d : Design) (es : DefsText) (places : Places) : Type 0 where
  pub fits : DefsFit d es
  pub few : row_count es ≤ most_rows
  pub tables : AllZip (IsPlace es) (functions d) places

-- Why definitions are refused, out of memory aside: the first fault; or, where there is none, the number of rows,
-- which is over the limit.
abbrev pub IsRefused : Design → DefsText → DefsFault → Type 0
IsRefused d es (Limit n) = DefsFit d es × (n ≡ row_count es) × (most_rows < n)
IsRefused d es NoMemory = Unit {0}
IsRefused d es f = FirstFault d es (Some f)
