-- Cited by the clauses of `has_more_rows`: the rows of all tables. Private clauses cite what counts them.
use Rattle.std.specs.Prelude.{ℕ, ◌-◌, nat_lt, List, flat_map, if◌then◌else◌, Option, Some, None}
use Rattle.p4_ir.specs.P4Tree.{KeyRow, RowsFile, TableRows}

-- the rows of all tables
abbrev pub all_rows : RowsFile → List KeyRow
all_rows r = flat_map (λ (t : TableRows). t.rows) r.tables

-- ---- counted table by table

-- the rows of these tables
abbrev pub rows_in : List TableRows → List KeyRow
rows_in ts = flat_map (λ (t : TableRows). t.rows) ts

-- the room that so many leave; none where they do not fit
abbrev pub room_left : ℕ → ℕ → Option ℕ
room_left room n = if nat_lt room n then None else Some (room - n)
