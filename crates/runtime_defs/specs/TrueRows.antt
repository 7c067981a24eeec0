-- Cited by private clauses and by the invariant of `Defs`: the numbers that are kept of each table.
use Rattle.std.specs.Prelude.{◌≡◌, ℕ, ◌==◌, ◌&&◌, Bool, false, List, [], ◌∷◌, All, filter, length, if◌then◌else◌, Option, Some, None, option_and_then, slice_get, unwrap_or}
use Rattle.std.specs.List.{AllZip}
use Rattle.std.specs.List.Sorted.{IsStrictlySortedBy}
use Rattle.std.specs.Ordering.{nat_cmp}
use Rattle.cocoon_num.specs.Lists.{has_number}
use Rattle.cocoon_num.specs.Values.{fits_width}
use Rattle.cocoon_num.specs.declared.fun_table.FunRow.{FunRow}
use Rattle.cocoon_num.specs.declared.fun_table.FunTable.{FunTable}
use Rattle.runtime_defs.specs.Places.{MayHaveShape, Places, table_at}
use Rattle.numbering.specs.declared.key_table.KeyTable.{KeyTable}
use Rattle.runtime_defs.specs.RowKeys.{MayBeKeyed}
use Rattle.runtime_defs.specs.declared.true_numbers.TrueNumbers.{TrueNumbers}

-- the first value of a row
abbrev pub row_number : FunRow → ℕ
row_number row = unwrap_or (slice_get row.values 0) 0

-- of rows of one value each: the first that has the number is there, and is true
abbrev pub first_true : List FunRow → ℕ → Bool
first_true [] n = false
first_true (row ∷ rows) n = if n == row_number row then row.result.value == 1 else first_true rows n

-- the same of a table, if it has one parameter
abbrev pub true_by : Option FunTable → ℕ → Bool
true_by None n = false
true_by (Some t) n = (length t.widths == 1) && first_true t.rows n

-- the numbers at which this is so, ascending, and those of at most 16 bits
pub record IsListed (place : Option FunTable) (numbers : TrueNumbers) : Type 0 where
  pub ordered : IsStrictlySortedBy nat_cmp numbers.all.items
  pub are : (n : ℕ) → has_number n numbers.all.items ≡ true_by place n
  pub short_are : numbers.short.items ≡ filter (fits_width 16) numbers.all.items

-- the numbers and the keys that are kept beside tables, place by place
pub record IsKept (places : Places) (numbers : List TrueNumbers) (keys : List (Option KeyTable)) : Type 0 where
  pub shapes : All MayHaveShape places
  pub listed : AllZip IsListed places numbers
  pub keyed : AllZip MayBeKeyed places keys

-- the numbers of the function of a number, if it has a table
abbrev pub MayBeListed : Places → Option ℕ → Option TrueNumbers → Type 0
MayBeListed places function None = option_and_then (table_at places) function ≡ None
MayBeListed places function (Some numbers) = IsListed (option_and_then (table_at places) function) numbers
