-- What a text begins with. The clauses of `Lexicon` cite `BeginsWithLetter` and `mark_read`; private clauses of `prefixes`
-- cite the others.
use Rattle.std.specs.Prelude.{◌≤◌, ℕ, Bool, true, false, List, [], ◌∷◌, length, take, Option, Some, None, IsTrue}
use Rattle.cocoon_num.specs.Tokens as tokens
use Rattle.lexing.specs.Lexed.{IsSpelled}
use Rattle.lexing.specs.declared.lexer.FirstFault.{FirstFault}
use Rattle.lexing.specs.declared.lexer.FirstFault.TheVariants.{BadByte, BadNumber, OpenComment}
use Rattle.lexing.specs.declared.prefixes.Fault.{Fault}
use Rattle.lexing.specs.declared.prefixes.Fault.TheVariants.{Byte, Number, Comment}
use Rattle.lexing.specs.declared.prefixes.Prefix.{Prefix}
use Rattle.lexing.specs.declared.prefixes.Prefix.TheVariants.{Gap, Piece, Faulty}

abbrev pub BeginsWithLetter : List ℕ → Type 0
BeginsWithLetter [] = ⊥
BeginsWithLetter (b ∷ bs) = IsTrue (tokens.is_letter b)

abbrev pub has_bytes : List ℕ → Bool
has_bytes [] = false
has_bytes (b ∷ bs) = true

-- the prefix that a mark is, of which the kind and the length were read
abbrev pub mark_read : {K : Type 0} → (K → List ℕ → tokens.Kind) → List ℕ → Option (K × ℕ) → tokens.Prefix
mark_read kind_of text None = tokens.faulty tokens.bad_byte
mark_read kind_of text (Some m) = tokens.piece (kind_of m.0 (take m.1 text)) m.1

abbrev pub fault_of : Fault → ℕ → tokens.LexFault
fault_of Byte = tokens.bad_byte
fault_of Number = tokens.bad_number
fault_of Comment = tokens.open_comment

abbrev pub first_fault : Fault → ℕ → FirstFault
first_fault Byte at = BadByte at
first_fault Number at = BadNumber at
first_fault Comment at = OpenComment at

-- the prefix of this text that one of the code stands for
abbrev pub prefix_of : {K : Type 0} → (K → List ℕ → tokens.Kind) → List ℕ → Prefix K → tokens.Prefix
prefix_of kind_of text (Gap size) = tokens.gap size
prefix_of kind_of text (Piece kind size) = tokens.piece (kind_of kind (take size text)) size
prefix_of kind_of text (Faulty fault) = tokens.faulty (fault_of fault)

-- what a text of one byte or more begins with
abbrev pub first_prefix : tokens.Lexicon → List ℕ → tokens.Prefix
first_prefix lexicon [] = tokens.gap 1
first_prefix lexicon (b ∷ bs) = tokens.prefix lexicon b (b ∷ bs)

-- a prefix has one byte or more, and all of them stand in the text
abbrev pub Fits : List ℕ → tokens.Prefix → Type 0
Fits text (tokens.gap size) = (1 ≤ size) × (size ≤ length text)
Fits text (tokens.piece kind size) = (1 ≤ size) × (size ≤ length text) × IsSpelled kind
Fits text (tokens.faulty fault) = Unit {0}
