-- Cited by private clauses of `rows`: results that a file of rows holds, which are numbers of 64 bits.
use Rattle.std.specs.Prelude.{◌<◌, ◌^◌, All}
use Rattle.cocoon_num.specs.declared.fun_table.FunRow.{FunRow}
use Rattle.cocoon_num.specs.declared.fun_table.FunTable.{FunTable}

-- the result of a row
abbrev pub HasWord : FunRow → Type 0
HasWord row = row.result.value < 2 ^ 64

-- the results of all rows of a table, and its default
pub record HasWords (t : FunTable) : Type 0 where
  pub rows : All HasWord t.rows
  pub otherwise : t.default.value < 2 ^ 64
