-- Cited by the clauses of `tables_of`: the rows of what functions gave.
use Rattle.std.specs.Prelude.{ℕ, ◌==◌, List, [], ◌∷◌, if◌then◌else◌}
use Rattle.cocoon_num.specs.declared.fun_table.FunRow.{FunRow}
use Rattle.runtime_defs.specs.Printable.{all_ones}
use Rattle.runtime_defs.specs.declared.lookups.Lookup.{Lookup}

-- all bits of these arguments give the result
abbrev pub row_of : (widths : List ℕ) → Lookup → FunRow
row_of widths l = record { values = l.args; masks = all_ones widths; result = l.result }

-- those of the function of this number, in order
abbrev pub rows_for : (widths : List ℕ) → (function : ℕ) → List Lookup → List FunRow
rows_for widths f [] = []
rows_for widths f (l ∷ ls) = if l.function == f then row_of widths l ∷ rows_for widths f ls else rows_for widths f ls
