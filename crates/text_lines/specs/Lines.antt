-- Cited by all clauses about the lines of a file. The lines of bytes with their numbers, and the parts of a line.
-- It follows the section "Lines" of docs/FORMATS.md.
use Rattle.std.specs.Prelude.{ℕ, ◌+◌, ◌==◌, Bool, if◌then◌else◌, not, List, [], ◌∷◌, length}
use Rattle.std.specs.List.{filter}

-- pieces, the first of which has one byte more
abbrev pub longer_first : ℕ → List (List ℕ) → List (List ℕ)
longer_first b [] = (b ∷ []) ∷ []
longer_first b (piece ∷ pieces) = (b ∷ piece) ∷ pieces

-- What stands in the lines of a file: a line ends with a line feed or at the file's end, where none begins.
abbrev pub line_bytes : List ℕ → List (List ℕ)
line_bytes [] = []
line_bytes (b ∷ bs) = if b == 10 then [] ∷ line_bytes bs else longer_first b (line_bytes bs)

-- a line with its number in the file, from 1
pub record Line : Type 0 where
  pub number : ℕ
  pub bytes : List ℕ

-- these with their numbers, from this one on
abbrev pub numbered : ℕ → List (List ℕ) → List Line
numbered n [] = []
numbered n (c ∷ cs) = record { number = n; bytes = c } ∷ numbered (n + 1) cs

-- the lines of a file
abbrev pub lines_of : List ℕ → List Line
lines_of bytes = numbered 1 (line_bytes bytes)

-- how many there are
abbrev pub line_count : List ℕ → ℕ
line_count bytes = length (line_bytes bytes)

-- something stands in it
abbrev pub is_filled : Line → Bool
is_filled line = not (length line.bytes == 0)

-- those that are not empty
abbrev pub filled_lines : List ℕ → List Line
filled_lines bytes = filter is_filled (lines_of bytes)

-- the parts of what stands in a line, which one space separates
abbrev pub parts_of : List ℕ → List (List ℕ)
parts_of [] = [] ∷ []
parts_of (b ∷ bs) = if b == 32 then [] ∷ parts_of bs else longer_first b (parts_of bs)
