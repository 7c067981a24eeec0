-- Cited by the clauses of `read_design` and `read_defs`, by the laws of this crate, and by the clauses of command_reports on
-- refusals: the first fault of a text of designs or of definitions, by the offset at which it begins, with its position.
use Rattle.std.specs.Prelude.{◌≡◌, ℕ, List, slice_get, Some, Ok, Err, codes}
use Rattle.cocoon_num.specs.Tokens.{Kind, Token, kinds, language, language_bounds, lex}
use Rattle.cocoon_num.specs.Tokens as lexing
use Rattle.cocoon_num.specs.FirstFaults as first_faults
use Rattle.cocoon_text.specs.Position.{column_of, line_of}
use Rattle.cocoon_text.specs.declared.fault.FaultKind.{FaultKind}
use Rattle.cocoon_text.specs.declared.fault.FaultKind.TheVariants as kind
use Rattle.cocoon_text.specs.declared.fault.TextFault.{TextFault}
use Rattle.cocoon_text.specs.declared.fault.Unread.{Unread}
use Rattle.cocoon_text.specs.declared.fault.Unread.TheVariants.{Faulty, NoMemory}

-- The first fault of a text begins at an offset. Tokens begin some text by the parameter `Begins`.
pub data FaultAt (Begins : List Kind → Type 0) (text : List ℕ) : FaultKind → ℕ → Type 0 where
  bad_byte : {at : ℕ} → lex language text ≡ Err (lexing.bad_byte at) → FaultAt Begins text kind.BadByte at
  bad_number : {at : ℕ} → lex language text ≡ Err (lexing.bad_number at) → FaultAt Begins text kind.BadNumber at
  open_comment : {at : ℕ} → lex language text ≡ Err (lexing.open_comment at) → FaultAt Begins text kind.OpenComment at
  unexpected : {tokens : List Token} {i : ℕ} {token : Token} → lex language text ≡ Ok tokens
      → first_faults.Unexpected language_bounds Begins (kinds tokens) i → slice_get tokens i ≡ Some token → FaultAt Begins text kind.Unexpected token.start
  too_deep : {tokens : List Token} {i : ℕ} {token : Token} → lex language text ≡ Ok tokens
      → first_faults.TooDeep language_bounds Begins (kinds tokens) i → slice_get tokens i ≡ Some token → FaultAt Begins text kind.TooDeep token.start

-- The first fault of a text, with the line and column of its offset.
pub record FirstFault (Begins : List Kind → Type 0) (text : List ℕ) (f : TextFault) : Type 0 where
  pub offset : ℕ
  pub begins : FaultAt Begins text f.kind offset
  pub line_is : f.line ≡ line_of text offset
  pub column_is : f.column ≡ column_of text offset

-- why a text has no tree, out of memory aside
abbrev pub IsUnread : (List Kind → Type 0) → List ℕ → Unread → Type 0
IsUnread Begins text (Faulty f) = FirstFault Begins text f
IsUnread Begins text NoMemory = Unit {0}

-- the name in a report
abbrev pub kind_name : FaultKind → List ℕ
kind_name kind.BadByte = codes "BadByte"
kind_name kind.BadNumber = codes "BadNumber"
kind_name kind.OpenComment = codes "OpenComment"
kind_name kind.Unexpected = codes "Unexpected"
kind_name kind.TooDeep = codes "TooDeep"
