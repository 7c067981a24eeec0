-- Columns, one byte further.
use Rattle.std.specs.Prelude.{◌≡◌, ℕ, ◌+◌, ◌<◌, ◌==◌, not, Bool, true, false, List, [], ◌∷◌, length, take, reverse, get_or, if◌then◌else◌, refl}
use Rattle.std.proofs.Common.{ap, ◌∙◌, arith}
use Rattle.std.proofs.lemmas.List.{take_more, reverse-append}
use Rattle.cocoon_num.specs.Tokens.{leading}
use Rattle.cocoon_text.specs.Position.{column_of}

-- the bytes of a line, back from its end
abbrev back_to_feed : List ℕ → List ℕ
back_to_feed bytes = leading (λ b. not (b == 10)) bytes

-- the bytes before an offset, from the last one on
back : (xs : List ℕ) (i : ℕ) → i < length xs → reverse (take (i + 1) xs) ≡ get_or xs i 0 ∷ reverse (take i xs)
back xs i h = ap reverse (take_more xs i 0 h) ∙ reverse-append (take i xs) (get_or xs i 0 ∷ [])

-- one byte more of a line, or a new line
one_back : (b : ℕ) (bytes : List ℕ) (feed : Bool) → (b == 10) ≡ feed → length (back_to_feed (b ∷ bytes)) + 1 ≡ (if feed then 1 else length (back_to_feed bytes) + 1 + 1)
one_back b bytes true e = rw e refl
one_back b bytes false e = rw e (omega arith)

-- after a line feed the column is 1
pub next_column : (xs : List ℕ) (i : ℕ) → i < length xs → column_of xs (i + 1) ≡ (if get_or xs i 0 == 10 then 1 else column_of xs i + 1)
next_column xs i h = ap (λ bytes. length (back_to_feed bytes) + 1) (back xs i h) ∙ one_back (get_or xs i 0) (reverse (take i xs)) (get_or xs i 0 == 10) refl
