-- Cited by the clauses of what prints failures: what their text says.
use Rattle.std.specs.Prelude.{◌≡◌, ℕ, List}
use Rattle.cocoon_num.specs.Reads.{ReadsDefs}
use Rattle.cocoon_num.specs.Tree.{DefsText, Design}
use Rattle.cocoon_types.specs.DefsRules.{DefsFit}
use Rattle.cocoon_types.specs.Tables.{defs_of}
use Rattle.failures.specs.Failures.{Failure}
use Rattle.failures.specs.FailureTexts.{failure_text}

-- six lines say the run of a leaf, and the text behind them reads as the definitions of the failure, which fit the design
pub record Tells (d : Design) (word : List ℕ) (level leaf : ℕ) (f : Failure) (text : List ℕ) : Type 0 where
  pub defs : List ℕ
  pub is : text ≡ failure_text word level leaf f defs
  pub entries : DefsText
  pub reads : ReadsDefs defs entries
  pub fits : DefsFit d entries
  pub are : f.defs ≡ defs_of d entries
