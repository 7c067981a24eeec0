-- Cited by the steps of commands in Steps.antt, and through them by `keeps` of `run`. What is said of one obligation of a
-- design, where none before it ever fails: that it does, or why it is not known to hold. It follows "Statuses" and "Spent budgets"
-- in docs/FORMATS.md.
use Rattle.std.specs.Prelude.{◌≡◌, ℕ, List, Some, All, codes, map, slice_get, take}
use Rattle.bv_terms.specs.TermTrees.{Term}
use Rattle.cnf_core.specs.CertsOf.{instance_of, log_of}
use Rattle.cnf_core.specs.declared.certificates.Instance.{Instance}
use Rattle.cnf_core.specs.declared.log.Log.{Log}
use Rattle.cocoon_num.specs.Tree.{Design}
use Rattle.runtime_defs.specs.EntryPlaces.{defs_text}
use Rattle.failures.specs.Failures.{Failure}
use Rattle.failures.specs.Told.{Tells}
use Rattle.obligation_laws.specs.Failing.{NeverFails}
use Rattle.obligation_laws.specs.Obligations.{Kind, contained, bounded, Obligation, all_obligations}
use Rattle.query_laws.specs.Certified.{HasTooMany}
use Rattle.discharge.specs.Answering.{IsSpentOn}
use Rattle.rounds.specs.Outcomes.{IsAsked, IsSpentAfter}
use Rattle.rounds.specs.declared.outcome.Query.{Query}
use Rattle.rounds.specs.declared.outcome.Query.TheVariants.{Goal, Assumption}
use Rattle.verdicts.specs.Failing.{FailsBy}
use Rattle.cert_text.specs.BudgetJson.{IsBudgetFile}
use Rattle.cert_text.specs.Spent as spent
use Rattle.cert_text.specs.Spent.{Spent}
use Rattle.command_reports.specs.Report.{given_up}
use Rattle.command_reports.specs.declared.report.Report.{Report}
use Rattle.command_reports.specs.declared.report.Verdict.{Verdict}
use Rattle.command_reports.specs.declared.report.Verdict.TheVariants as verdict
use Rattle.command_answers.specs.ReportLines.{budget_line, rounds_line}

-- this is said of the obligation of a number, and those before it never fail
pub record OfObligation (d : Design) (number : ℕ) (Says : Obligation → Type 0) : Type 0 where
  pub obligation : Obligation
  pub is : slice_get (all_obligations d) number ≡ Some obligation
  pub says : Says obligation
  pub earlier : All (NeverFails d) (take number (all_obligations d))

-- ---- failures

-- the verdict on an obligation of this kind that fails, and the first word of its report
abbrev pub verdict_of : Kind → Verdict
verdict_of contained = verdict.Refuted
verdict_of bounded = verdict.HopBound

abbrev pub word_of : Kind → List ℕ
word_of contained = codes "refuted"
word_of bounded = codes "hopbound"

-- the report tells a run by which the obligation fails
pub record TellsFailure (d : Design) (o : Obligation) (report : Report) : Type 0 where
  pub failure : Failure
  pub fails : FailsBy d o failure
  pub verdict_ : report.verdict ≡ verdict_of o.kind
  pub lines_ : Tells d (word_of o.kind) o.level o.number failure report.lines

-- the obligation of a number is the first that may fail, and this is the report of that
abbrev pub IsFailing : Design → (number : ℕ) → Report → Type 0
IsFailing d number report = OfObligation d number (λ o. TellsFailure d o report)

-- ---- searches that are given up

-- so many rounds lead to this query of the obligation of a number, and this holds of its term
abbrev pub IsAskedOf : Design → (rounds number : ℕ) → Query → (Term → Type 0) → Type 0
IsAskedOf d rounds number q P = OfObligation d number (λ o. IsAsked d o.level o.formula rounds q P)

-- what was spent where conflicts were, on the obligation or on an assumption under a candidate
abbrev pub spent_on : Design → (number : ℕ) → Query → Log → Spent
spent_on d number (Goal instances) log = spent.asked number (map instance_of instances) (log_of log)
spent_on d number (Assumption i tables instances) log =
    spent.tried i (defs_text d tables) number (map instance_of instances) (log_of log)

-- its line
abbrev pub spent_line : (conflicts number : ℕ) → Query → List ℕ
spent_line conflicts number (Goal instances) = budget_line conflicts (codes "obligation") number
spent_line conflicts number (Assumption i tables instances) = budget_line conflicts (codes "assumption") i

-- A query of it spent the conflicts, and these are the bytes of the file of that.
pub record IsSpent (d : Design) (conflicts rounds number : ℕ) (q : Query) (bytes : List ℕ) : Type 0 where
  pub vars : ℕ
  pub log : Log
  pub spent_ : IsAskedOf d rounds number q (λ goal. IsSpentOn goal conflicts vars log)
  pub file : IsBudgetFile (spent_on d number q log) bytes

-- The rounds are spent on it: its query with as many instances can be satisfied. These are the bytes of the file of that.
pub record IsOpen (d : Design) (rounds number : ℕ) (bytes : List ℕ) : Type 0 where
  pub instances : List Instance
  pub spent_ : OfObligation d number (λ o. IsSpentAfter d o.level o.formula rounds instances)
  pub file : IsBudgetFile (spent.rounds number (map instance_of instances)) bytes

-- a query of it has so many clauses, which are too many
abbrev pub IsBig : Design → (rounds number count : ℕ) → Type 0
IsBig d rounds number count =
    (q : Query) × IsAskedOf d rounds number q (λ goal. HasTooMany goal count)

-- The search for an obligation was given up: this is reported, and these are the bytes of its file.
pub data IsGivenUpOn (d : Design) (conflicts rounds : ℕ) (report : Report) (bytes : List ℕ) : Type 0 where
  by_conflicts : (number : ℕ) (q : Query) → IsSpent d conflicts rounds number q bytes
      → report ≡ given_up (spent_line conflicts number q)
      → IsGivenUpOn d conflicts rounds report bytes
  by_rounds : (number : ℕ) → IsOpen d rounds number bytes
      → report ≡ given_up (rounds_line rounds number)
      → IsGivenUpOn d conflicts rounds report bytes
