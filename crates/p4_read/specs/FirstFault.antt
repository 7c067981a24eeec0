-- Cited by the clauses of `read` and the laws of p4_read, and by those of bundle_reader.
-- The first fault of a P4 text: that of its first byte that begins no token, else that of its first token with which no text
-- goes on or which is too deep, else the first declaration or statement that breaks a kind rule. It follows "The text" and
-- "Kind rules" in docs/FORMATS.md.
use Rattle.std.specs.Prelude.{◌≡◌, ℕ, List, Some, Ok, IsTrue}
use Rattle.cocoon_num.specs.FirstFaults.{Unexpected as UnexpectedAt, TooDeep as TooDeepAt}
use Rattle.cocoon_num.specs.Tokens.{Kind as TokenKind, Token, is_shallow, kinds, lex}
use Rattle.p4_ir.specs.P4Text.{p4_bounds, p4_lexicon}
use Rattle.p4_parse.specs.Kinds.{FaultAt}
use Rattle.p4_parse.specs.declared.lexer.LexFault.{LexFault}
use Rattle.p4_parse.specs.declared.lexer.LexFault.TheVariants as lexed
use Rattle.p4_texts.specs.KindFaults.{kind_faults}
use Rattle.parsing.specs.declared.fault.ParseFault.{ParseFault}
use Rattle.parsing.specs.declared.fault.ParseFault.TheVariants as parsed
use Rattle.p4_resolve.specs.FirstKind.{first_of}
use Rattle.p4_resolve.specs.declared.fault.KindFault.{KindFault}
use Rattle.p4_resolve.specs.declared.fault.KindFault.TheVariants as resolved
use Rattle.p4_texts.specs.Written.{BeginsP4, P4TextAt, ProgramText}
use Rattle.p4_read.specs.declared.fault.P4Fault.{P4Fault}
use Rattle.p4_read.specs.declared.fault.P4Fault.TheVariants.{Lex, Unexpected, TooDeep, Kind, NoMemory}

-- the text has tokens of which this holds
pub record OfTokens (text : List ℕ) (Holds : List TokenKind → Type 0) : Type 0 where
  pub tokens : List Token
  pub tokens_are : lex p4_lexicon text ≡ Ok tokens
  pub holds : Holds (kinds tokens)

-- the tokens are those of a text that is not deep, and what begins at this token is the first that breaks a kind rule
pub record FirstKind (i : ℕ) (ks : List TokenKind) : Type 0 where
  pub tree : ProgramText
  pub text_at : P4TextAt ks tree
  pub shallow : IsTrue (is_shallow p4_bounds ks)
  pub first : first_of (kind_faults tree) ≡ Some i

-- it is the first fault; out of memory is told of any text
abbrev pub IsFirstFault : List ℕ → P4Fault → Type 0
IsFirstFault text (Lex at) = FaultAt text at
IsFirstFault text (Unexpected i) = OfTokens text (λ ks. UnexpectedAt p4_bounds BeginsP4 ks i)
IsFirstFault text (TooDeep i) = OfTokens text (λ ks. TooDeepAt p4_bounds BeginsP4 ks i)
IsFirstFault text (Kind i) = OfTokens text (FirstKind i)
IsFirstFault text NoMemory = Unit {0}

-- the fault that one of a step is told as
abbrev pub of_lex : LexFault → P4Fault
of_lex (lexed.NoToken at) = Lex at
of_lex lexed.NoMemory = NoMemory

abbrev pub of_parse : ParseFault → P4Fault
of_parse (parsed.Unexpected i) = Unexpected i
of_parse (parsed.TooDeep i) = TooDeep i
of_parse parsed.NoMemory = NoMemory

abbrev pub of_kind : KindFault → P4Fault
of_kind (resolved.Kind i) = Kind i
of_kind resolved.NoMemory = NoMemory
