-- What is taken of the words for an argument: a name in its form, or a number. Cited by the clauses of
-- arguments.rt. It follows the section "Commands" of README.md.
use Rattle.std.specs.Prelude.{ℕ, List, if◌then◌else◌, length, nat_le, Option, Some, None, option_and_then}
use Rattle.clap.specs.Words.{Row, Text, first_of}
use Rattle.cocoon_num.specs.Tokens.{decimal_value, kept_if}
use Rattle.command_line.specs.Names.{is_file_name}

-- a word that is a name
abbrev pub word_name : Text → Option (List ℕ)
word_name word = if is_file_name word then Some word else None

-- the name for an argument, by what `clap` matched
abbrev pub argument_name : Text → List Row → Option (List ℕ)
argument_name argument rows = option_and_then word_name (first_of argument rows)

-- the most decimal digits of a number
abbrev pub most_digits : ℕ
most_digits = 7

-- a word that is a number
abbrev pub word_number : Text → Option ℕ
word_number word = if nat_le (length word) most_digits then decimal_value word else None

-- one that is none above this
abbrev pub number_up_to : (most : ℕ) → Text → Option ℕ
number_up_to most word = option_and_then (λ n. kept_if (nat_le n most) n) (word_number word)

-- a word that is a number in this range
abbrev pub number_between : (least most : ℕ) → Text → Option ℕ
number_between least most word =
    option_and_then (λ n. kept_if (nat_le least n) n) (number_up_to most word)

-- the number for an argument, from 1 on, by what `clap` matched
abbrev pub argument_number : Text → (most : ℕ) → List Row → Option ℕ
argument_number argument most rows =
    option_and_then (number_between 1 most) (first_of argument rows)

-- the number of a word that may be missing: from 1 on, or the usual one if there is no word
abbrev pub number_or : (usual most : ℕ) → Option Text → Option ℕ
number_or usual most None = Some usual
number_or usual most (Some word) = number_between 1 most word

-- the number of an option, by what `clap` matched
abbrev pub option_number : (name : Text) → (usual most : ℕ) → List Row → Option ℕ
option_number name usual most rows = number_or usual most (first_of name rows)
