-- Cited by `position_at` and by the first faults of cocoon_text: the line and the column of an offset in a text. A line ends
-- with its line feed.
use Rattle.std.specs.Prelude.{ℕ, ◌+◌, ◌==◌, not, List, length, take, reverse, count_by}
use Rattle.cocoon_num.specs.Tokens.{leading}

-- one more than the line feeds before the offset
abbrev pub line_of : List ℕ → ℕ → ℕ
line_of text at = count_by (λ b. b == 10) (take at text) + 1

-- one more than the bytes before the offset, back to a line feed
abbrev pub column_of : List ℕ → ℕ → ℕ
column_of text at = length (leading (λ b. not (b == 10)) (reverse (take at text))) + 1
