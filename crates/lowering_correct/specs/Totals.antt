-- Cited by `groups_are_few` and `rows_are_few`: how many rows the tables of functions have in all.
use Rattle.std.specs.Prelude.{ℕ, ◌+◌, [], ◌∷◌, length, Some, None}
use Rattle.runtime_defs.specs.Places.{Places}

abbrev pub rows_in : Places → ℕ
rows_in [] = 0
rows_in (None ∷ places) = rows_in places
rows_in (Some t ∷ places) = length t.rows + rows_in places
