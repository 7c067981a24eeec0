-- What the parts of `read_number` give, in the terms of the definition. Its clause cites `kind_of_number`, as that of
-- `Lexicon` does; private clauses of `numbers` cite the others.
use Rattle.std.specs.Prelude.{nat_lt, option_and_then, ◌^◌, ℕ, List, Option}
use Rattle.cocoon_num.specs.Tokens as tokens
use Rattle.cocoon_num.specs.declared.bits.Bits.{Bits}
use Rattle.lexing.specs.declared.numbers.Number.{Number}
use Rattle.lexing.specs.declared.numbers.Number.TheVariants.{Plain, Literal}
use Rattle.lexing.specs.declared.numbers.Radix.{Radix}
use Rattle.lexing.specs.declared.numbers.Radix.TheVariants.{Decimal, Hexadecimal}

abbrev pub literal_kind : Bits → tokens.Kind
literal_kind bits = tokens.literal bits.width bits.value

-- the kind of a number
abbrev pub kind_of_number : Number → tokens.Kind
kind_of_number (Plain n) = tokens.plain n
kind_of_number (Literal bits) = literal_kind bits

abbrev pub base_of : Radix → ℕ
base_of Decimal = 10
base_of Hexadecimal = 16

abbrev pub digit_of : Radix → ℕ → Option ℕ
digit_of Decimal = tokens.dec_digit
digit_of Hexadecimal = tokens.hex_digit

-- a number of 128 bits, or none
abbrev pub small : ℕ → Option ℕ
small n = tokens.kept_if (nat_lt n (2 ^ 128)) n

abbrev pub value_of : Radix → List ℕ → Option ℕ
value_of radix text = option_and_then small (tokens.digits (base_of radix) (digit_of radix) text)

-- the literal of a width, the letter `w` and a value
abbrev pub literal_read : ℕ → List ℕ → Option tokens.Kind
literal_read widest run = tokens.literal_of widest (tokens.decimal_value (tokens.before_w run)) (tokens.literal_value (tokens.after_w run))
