-- When a text stands for a program. The laws of `program_laws` cite it. It follows "The text" and "Kind rules" in
-- docs/FORMATS.md; the subset is one of P4-16. Optional headers, tags and versions of rows are absent.
use Rattle.std.specs.Prelude.{◌≡◌, ℕ, List, [], Ok, IsTrue}
use Rattle.cocoon_num.specs.Tokens.{Token, is_shallow, lex, kinds}
use Rattle.p4_ir.specs.P4Text.{p4_bounds, p4_lexicon}
use Rattle.p4_ir.specs.P4Tree.{Program}
use Rattle.p4_texts.specs.KindFaults.{kind_faults}
use Rattle.p4_texts.specs.Meant.{program_of_text}
use Rattle.p4_texts.specs.Written.{P4TextAt, ProgramText}

-- the tokens are those of this text, which breaks no rule and stands for the program
pub record StandsFor (text : List ℕ) (t : ProgramText) (program : Program) : Type 0 where
  pub tokens : List Token
  pub tokens_are : lex p4_lexicon text ≡ Ok tokens
  pub text_at : P4TextAt (kinds tokens) t
  pub shallow : IsTrue (is_shallow p4_bounds (kinds tokens))
  pub no_fault : kind_faults t ≡ []
  pub stands : program_of_text t ≡ program
