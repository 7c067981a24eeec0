-- Cited by the clause of `position_of`, and by the clauses of command_reports on broken rules: where the token of an index stands
-- in a text.
use Rattle.std.specs.Prelude.{ℕ, List, length, slice_get, Option, Some, None, Ok, Err}
use Rattle.cocoon_num.specs.Tokens.{Token, Lexed, language, lex}
use Rattle.cocoon_text.specs.Position.{column_of, line_of}
use Rattle.cocoon_text.specs.declared.position.Position.{Position}

-- where a token begins; without one, at the text's end
abbrev pub start_or : (end : ℕ) → Option Token → ℕ
start_or end (Some t) = t.start
start_or end None = end

-- where the token of an index begins
abbrev pub start_among : (end : ℕ) → Lexed → ℕ → ℕ
start_among end (Ok tokens) i = start_or end (slice_get tokens i)
start_among end (Err fault) i = end

-- the offset of the token of an index; where there is no such token, that of the text's end
abbrev pub offset_of : (text : List ℕ) → ℕ → ℕ
offset_of text i = start_among (length text) (lex language text) i

-- the line and the column of an offset
abbrev pub position_at : (text : List ℕ) → ℕ → Position
position_at text at = record { line = line_of text at; column = column_of text at }

-- the position of the token of an index
abbrev pub token_position : (text : List ℕ) → ℕ → Position
token_position text i = position_at text (offset_of text i)
