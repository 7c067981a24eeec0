-- Which words may name a file. It follows the section "Commands" of README.md.
use Rattle.std.specs.Prelude.{◌==◌, ◌&&◌, ◌||◌, ℕ, Bool, not, List, length}
use Rattle.std.specs.List.{list_all}
use Rattle.cocoon_num.specs.Tokens.{is_between, is_digit}

-- a letter, a digit, `.`, `_`, `-` or `/`
abbrev pub is_name_byte : ℕ → Bool
is_name_byte b =
    is_between 65 90 b || is_between 97 122 b || is_digit b
    || (b == 46) || (b == 95) || (b == 45) || (b == 47)

-- one or more of these
abbrev pub is_file_name : List ℕ → Bool
is_file_name bytes = not (length bytes == 0) && list_all is_name_byte bytes
