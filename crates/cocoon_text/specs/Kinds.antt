-- Cited by the clauses of `lex` and of the parser, and by private clauses of what reads whole texts: the
-- tokens of the definitions that the tokens of the code stand for.
use Rattle.std.specs.Prelude.{◌≡◌, ◌≤◌, ℕ, List, length, slice_range, Err, IsTrue, codes}
use Rattle.cocoon_num.specs.Tokens as tokens
use Rattle.cocoon_text.specs.declared.token.Keyword.{Keyword}
use Rattle.cocoon_text.specs.declared.token.Keyword.TheVariants as keyword
use Rattle.cocoon_text.specs.declared.token.Mark.{Mark}
use Rattle.cocoon_text.specs.declared.token.Mark.TheVariants as mark
use Rattle.cocoon_text.specs.declared.token.TokenKind.{TokenKind}
use Rattle.cocoon_text.specs.declared.token.TokenKind.TheVariants as kind
use Rattle.cocoon_text.specs.declared.token.Token.{Token}
use Rattle.cocoon_text.specs.declared.lexer.LexFault.{LexFault}
use Rattle.cocoon_text.specs.declared.lexer.LexFault.TheVariants.{BadByte, BadNumber, OpenComment, NoMemory}

abbrev pub keyword_text : Keyword → List ℕ
keyword_text keyword.Packet = codes "packet"
keyword_text keyword.Header = codes "header"
keyword_text keyword.Function = codes "function"
keyword_text keyword.Assume = codes "assume"
keyword_text keyword.Role = codes "role"
keyword_text keyword.Host = codes "host"
keyword_text keyword.Switch = codes "switch"
keyword_text keyword.Refine = codes "refine"
keyword_text keyword.Within = codes "within"
keyword_text keyword.Ports = codes "ports"
keyword_text keyword.Let = codes "let"
keyword_text keyword.If = codes "if"
keyword_text keyword.Else = codes "else"
keyword_text keyword.Filter = codes "filter"
keyword_text keyword.Havoc = codes "havoc"
keyword_text keyword.Fork = codes "fork"
keyword_text keyword.Send = codes "send"
keyword_text keyword.Pkt = codes "pkt"
keyword_text keyword.Bit = codes "bit"
keyword_text keyword.Bool = codes "bool"
keyword_text keyword.True = codes "true"
keyword_text keyword.False = codes "false"
keyword_text keyword.And = codes "and"
keyword_text keyword.Or = codes "or"
keyword_text keyword.Not = codes "not"
keyword_text keyword.Default = codes "default"
keyword_text keyword.Define = codes "define"

abbrev pub mark_text : Mark → List ℕ
mark_text mark.OpenBrace = codes "{"
mark_text mark.CloseBrace = codes "}"
mark_text mark.OpenParen = codes "("
mark_text mark.CloseParen = codes ")"
mark_text mark.OpenBracket = codes "["
mark_text mark.CloseBracket = codes "]"
mark_text mark.Less = codes "<"
mark_text mark.Greater = codes ">"
mark_text mark.LessEqual = codes "<="
mark_text mark.GreaterEqual = codes ">="
mark_text mark.Equal = codes "=="
mark_text mark.Unequal = codes "!="
mark_text mark.Assign = codes "="
mark_text mark.Implies = codes "=>"
mark_text mark.Plus = codes "+"
mark_text mark.PlusPlus = codes "++"
mark_text mark.Minus = codes "-"
mark_text mark.And = codes "&"
mark_text mark.Or = codes "|"
mark_text mark.Xor = codes "^"
mark_text mark.Flip = codes "~"
mark_text mark.Comma = codes ","
mark_text mark.Semicolon = codes ";"
mark_text mark.Colon = codes ":"
mark_text mark.Dot = codes "."
mark_text mark.Question = codes "?"
mark_text mark.Mask = codes "&&&"
mark_text mark.Any = codes "_"

-- the kind of a token with these bytes
abbrev pub kind_of : TokenKind → List ℕ → tokens.Kind
kind_of kind.Name bytes = tokens.a_name bytes
kind_of (kind.Keyword k) bytes = tokens.keyword (keyword_text k)
kind_of (kind.Plain n) bytes = tokens.plain n
kind_of (kind.Literal b) bytes = tokens.literal b.width b.value
kind_of (kind.Mark m) bytes = tokens.mark (mark_text m)
kind_of kind.End bytes = tokens.finish

abbrev pub token_of : List ℕ → Token → tokens.Token
token_of text t = record { kind = kind_of t.kind (slice_range text t.start t.end); start = t.start; stop = t.end }

-- the offsets of the token's bytes are within the text
abbrev pub StandsIn : List ℕ → Token → Type 0
StandsIn text t = (t.start ≤ t.end) × (t.end ≤ length text)

-- a name is one or more letters, digits and `_`
abbrev pub IsSpelled : List ℕ → Token → Type 0
IsSpelled text t = elim t.kind [
  | kind.Name ↦ IsTrue (tokens.is_run (slice_range text t.start t.end))
  | _ ↦ Unit {0}
]

-- the text has this fault, out of memory aside
abbrev pub HasFault : List ℕ → LexFault → Type 0
HasFault text (BadByte n) = tokens.lex tokens.language text ≡ Err (tokens.bad_byte n)
HasFault text (BadNumber n) = tokens.lex tokens.language text ≡ Err (tokens.bad_number n)
HasFault text (OpenComment n) = tokens.lex tokens.language text ≡ Err (tokens.open_comment n)
HasFault text NoMemory = Unit {0}
