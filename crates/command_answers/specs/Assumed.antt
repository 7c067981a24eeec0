-- Cited by the steps of commands in Steps.antt, and through them by `keeps` of `run`. What is said of one assumption
-- under the definitions of a text, where all assumptions before it are true at every tuple: that it is false at some
-- values, or why that is not known. It follows "Statuses" and "Spent budgets" in docs/FORMATS.md.
use Rattle.std.specs.Prelude.{◌≡◌, ℕ, List, Some, All, slice_get, take}
use Rattle.cnf_core.specs.CertsOf.{log_of}
use Rattle.cnf_core.specs.declared.log.Log.{Log}
use Rattle.cocoon_num.specs.Tree.{AssumeDecl, DefsText, Design}
use Rattle.cocoon_resolve.specs.Readers.{all_assumptions}
use Rattle.cocoon_types.specs.Tables.{Defs, defs_of}
use Rattle.runtime_defs.specs.EntryPlaces.{defs_text}
use Rattle.refinement.specs.Assumptions.{IsMet}
use Rattle.runtime_defs.specs.Places.{Places}
use Rattle.lower_p4.specs.Lowering.{AreOfText}
use Rattle.cert_text.specs.BudgetJson.{IsBudgetFile}
use Rattle.cert_text.specs.Spent.{given}
use Rattle.discharge.specs.Answering.{IsSpentOn, IsTooBig}
use Rattle.discharge.specs.Meeting.{IsFalseAt}
use Rattle.discharge.specs.Queries.{assumption_query}

-- this is said of the assumption of a number, and those before it are true at every tuple
pub record OfAssumption (d : Design) (defs : Defs) (number : ℕ) (Says : AssumeDecl → Type 0)
    : Type 0 where
  pub assumption : AssumeDecl
  pub is : slice_get (all_assumptions d) number ≡ Some assumption
  pub says : Says assumption
  pub earlier : All (IsMet d defs) (take number (all_assumptions d))

-- it is false at these values
abbrev pub IsBroken : Design → Defs → (number : ℕ) → (values : List ℕ) → Type 0
IsBroken d defs number values = OfAssumption d defs number (λ a. IsFalseAt d defs a values)

-- Its query over the tables of the definitions spent the conflicts, and these are the bytes of the
-- file of that.
pub record IsSpent (d : Design) (es : DefsText) (conflicts number : ℕ) (bytes : List ℕ) : Type 0 where
  pub tables : Places
  pub are : AreOfText d es tables
  pub vars : ℕ
  pub log : Log
  pub spent : OfAssumption d (defs_of d es) number
      (λ a. IsSpentOn (assumption_query d a tables) conflicts vars log)
  pub file : IsBudgetFile (given number (defs_text d tables) (log_of log)) bytes

-- its query over the tables of the definitions has so many clauses, which are too many
pub record IsBig (d : Design) (es : DefsText) (number count : ℕ) : Type 0 where
  pub tables : Places
  pub are : AreOfText d es tables
  pub big : OfAssumption d (defs_of d es) number (λ a. IsTooBig (assumption_query d a tables) count)
