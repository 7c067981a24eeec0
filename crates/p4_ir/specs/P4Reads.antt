-- Which program a P4 text reads as: the one that has its tokens and is well kinded. It follows "The text", with the bounds
-- on depth that its paragraph "The grammar read" has, and "Kind rules" in docs/FORMATS.md; the subset is one of P4-16.
-- Optional headers, tags and versions of rows are absent.
use Rattle.std.specs.Prelude.{◌≡◌, ℕ, List, Ok}
use Rattle.cocoon_num.specs.Tokens.{Token, lex, kinds}
use Rattle.p4_ir.specs.P4Tree.{Program}
use Rattle.p4_ir.specs.P4Text.{p4_lexicon, program_tokens}
use Rattle.p4_ir.specs.WellKinded.{WellKinded}

pub record P4Reads (text : List ℕ) (program : Program) : Type 0 where
  pub tokens : List Token
  pub tokens_are : lex p4_lexicon text ≡ Ok tokens
  pub reads : kinds tokens ≡ program_tokens program
  pub well_kinded : WellKinded program
