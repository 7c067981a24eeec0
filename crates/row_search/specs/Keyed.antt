-- Cited by the clauses of look-ups: the numbers in the keys of a table, and rows that have as many.
use Rattle.std.specs.Prelude.{◌≡◌, ℕ, List, length, map, slice_index}
use Rattle.p4_ir.specs.declared.rows.KeyRow.{KeyRow}

-- the numbers at some indices
abbrev pub keyed : (meta keys : List ℕ) → List ℕ
keyed meta keys = map (λ i. slice_index meta i) keys

-- the row has as many values and masks
abbrev pub HasKeys : ℕ → KeyRow → Type 0
HasKeys count row = (length row.values ≡ count) × (length row.masks ≡ count)
