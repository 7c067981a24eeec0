-- What is known of the tokens of a text, and of its first fault. The clauses of `lex` cite it.
use Rattle.std.specs.Prelude.{◌≡◌, ◌≤◌, ℕ, List, length, Err, IsTrue}
use Rattle.cocoon_num.specs.Tokens as tokens
use Rattle.lexing.specs.declared.lexer.FirstFault.{FirstFault}
use Rattle.lexing.specs.declared.lexer.FirstFault.TheVariants.{BadByte, BadNumber, OpenComment, NoMemory}

-- the offsets of the token's bytes are within the text
abbrev pub StandsIn : List ℕ → tokens.Token → Type 0
StandsIn text t = (t.start ≤ t.stop) × (t.stop ≤ length text)

-- a name is one or more letters, digits and `_`
abbrev pub IsSpelled : tokens.Kind → Type 0
IsSpelled kind = elim kind [
  | tokens.a_name bytes ↦ IsTrue (tokens.is_run bytes)
  | _ ↦ Unit {0}
]

-- the text has this fault, out of memory aside
abbrev pub HasFault : tokens.Lexicon → List ℕ → FirstFault → Type 0
HasFault lexicon text (BadByte n) = tokens.lex lexicon text ≡ Err (tokens.bad_byte n)
HasFault lexicon text (BadNumber n) = tokens.lex lexicon text ≡ Err (tokens.bad_number n)
HasFault lexicon text (OpenComment n) = tokens.lex lexicon text ≡ Err (tokens.open_comment n)
HasFault lexicon text NoMemory = Unit {0}
