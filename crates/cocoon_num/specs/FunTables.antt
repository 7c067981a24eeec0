-- Cited by the clauses of `FunTable::look`: which numbers a table may be looked up by, and what it gives of them.
use Rattle.std.specs.Prelude.{◌≡◌, ℕ, Bool, List, length}
use Rattle.cocoon_num.specs.Rows.{values_match, first_match}
use Rattle.cocoon_num.specs.declared.bits.Bits.{Bits}
use Rattle.cocoon_num.specs.declared.fun_table.FunRow.{FunRow}
use Rattle.cocoon_num.specs.declared.fun_table.FunTable.{FunTable}

-- the row has as many values and masks
abbrev pub HasKeys : ℕ → FunRow → Type 0
HasKeys count row = (length row.values ≡ count) × (length row.masks ≡ count)

-- the numbers match the row's values in the bits of its masks
abbrev pub row_matches : List ℕ → FunRow → Bool
row_matches xs row = values_match row.values row.masks xs

-- the result of the first row that the numbers match, else the default
abbrev pub looked : FunTable → List ℕ → Bits
looked t xs = first_match (row_matches xs) (λ (row : FunRow). row.result) t.rows t.default
