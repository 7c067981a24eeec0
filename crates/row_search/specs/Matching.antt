-- Cited by the private clauses of `matching` and `known`: the rows that can match where one key has a given number.
use Rattle.std.specs.Prelude.{ℕ, Bool, List, [], ◌∷◌, get_or, if◌then◌else◌}
use Rattle.cocoon_num.specs.Rows.{has_bits}
use Rattle.p4_ir.specs.P4Tree.{KeyRow}

-- the number has the bits that the row asks for at this place
abbrev pub can_match : (place number : ℕ) → KeyRow → Bool
can_match place number r = has_bits (get_or r.values place 0) (get_or r.masks place 0) number

-- the rows whose bits it has, in their order
abbrev pub matching : (place number : ℕ) → List KeyRow → List KeyRow
matching place number [] = []
matching place number (r ∷ rows) = if can_match place number r then r ∷ matching place number rows else matching place number rows
