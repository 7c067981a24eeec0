-- The tokens of the definitions that the tokens of the code stand for, and the first fault of a text that has none. The
-- clauses of `lex` cite them, and of p4_read.
use Rattle.std.specs.Prelude.{◌≡◌, ◌≤◌, ℕ, List, length, slice_range, Err, IsTrue, codes}
use Rattle.cocoon_num.specs.Tokens as tokens
use Rattle.p4_ir.specs.P4Text.{p4_lexicon}
use Rattle.p4_parse.specs.declared.token.Mark.{Mark}
use Rattle.p4_parse.specs.declared.token.Mark.TheVariants as mark
use Rattle.p4_parse.specs.declared.token.TokenKind.{TokenKind}
use Rattle.p4_parse.specs.declared.token.TokenKind.TheVariants as kind
use Rattle.p4_parse.specs.declared.token.Token.{Token}
use Rattle.p4_parse.specs.declared.lexer.LexFault.{LexFault}
use Rattle.p4_parse.specs.declared.lexer.LexFault.TheVariants.{NoToken, NoMemory}

abbrev pub mark_text : Mark → List ℕ
mark_text mark.Include = codes "#include <core.p4>"
mark_text mark.LessEqual = codes "<="
mark_text mark.GreaterEqual = codes ">="
mark_text mark.Equal = codes "=="
mark_text mark.Unequal = codes "!="
mark_text mark.PlusPlus = codes "++"
mark_text mark.Both = codes "&&"
mark_text mark.Either = codes "||"
mark_text mark.OpenBrace = codes "{"
mark_text mark.CloseBrace = codes "}"
mark_text mark.OpenParen = codes "("
mark_text mark.CloseParen = codes ")"
mark_text mark.OpenBracket = codes "["
mark_text mark.CloseBracket = codes "]"
mark_text mark.Less = codes "<"
mark_text mark.Greater = codes ">"
mark_text mark.Assign = codes "="
mark_text mark.Plus = codes "+"
mark_text mark.Minus = codes "-"
mark_text mark.And = codes "&"
mark_text mark.Or = codes "|"
mark_text mark.Xor = codes "^"
mark_text mark.Flip = codes "~"
mark_text mark.Not = codes "!"
mark_text mark.Comma = codes ","
mark_text mark.Semicolon = codes ";"
mark_text mark.Colon = codes ":"
mark_text mark.Dot = codes "."
mark_text mark.Question = codes "?"

-- the kind of a token with these bytes
abbrev pub kind_of : TokenKind → List ℕ → tokens.Kind
kind_of kind.Name bytes = tokens.a_name bytes
kind_of (kind.Plain n) bytes = tokens.plain n
kind_of (kind.Literal b) bytes = tokens.literal b.width b.value
kind_of (kind.Mark m) bytes = tokens.mark (mark_text m)
kind_of kind.End bytes = tokens.finish

abbrev pub token_of : List ℕ → Token → tokens.Token
token_of text t = record { kind = kind_of t.kind (slice_range text t.start t.end); start = t.start; stop = t.end }

-- the offsets of the token's bytes are within the text
abbrev pub StandsIn : List ℕ → Token → Type 0
StandsIn text t = (t.start ≤ t.end) × (t.end ≤ length text)

-- a name is one or more letters, digits and `_`
abbrev pub IsSpelled : List ℕ → Token → Type 0
IsSpelled text t = elim t.kind [
  | kind.Name ↦ IsTrue (tokens.is_run (slice_range text t.start t.end))
  | _ ↦ Unit {0}
]

-- the offset of a fault
abbrev pub fault_offset : tokens.LexFault → ℕ
fault_offset (tokens.bad_byte n) = n
fault_offset (tokens.bad_number n) = n
fault_offset (tokens.open_comment n) = n

-- the first fault of the text is at this offset
abbrev pub FaultAt : List ℕ → ℕ → Type 0
FaultAt text n = (fault : tokens.LexFault) × (tokens.lex p4_lexicon text ≡ Err fault) × (fault_offset fault ≡ n)

-- that of an answer, out of memory aside
abbrev pub HasFault : List ℕ → LexFault → Type 0
HasFault text (NoToken n) = FaultAt text n
HasFault text NoMemory = Unit {0}
