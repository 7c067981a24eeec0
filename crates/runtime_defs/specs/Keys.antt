-- Cited by private clauses: tables whose rows have a value and a mask for each width.
use Rattle.std.specs.Prelude.{length, All, Option, Some, None}
use Rattle.cocoon_num.specs.FunTables.{HasKeys}
use Rattle.cocoon_num.specs.declared.fun_table.FunTable.{FunTable}

-- each row of the table has them
abbrev pub HasAllKeys : FunTable → Type 0
HasAllKeys t = All (HasKeys (length t.widths)) t.rows

-- and so has the table of a place
abbrev pub HasPlaceKeys : Option FunTable → Type 0
HasPlaceKeys None = Unit {0}
HasPlaceKeys (Some t) = HasAllKeys t
