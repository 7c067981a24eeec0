-- Cited by the clauses of obligations.rt. What is said of the obligations of a design: certificates that show that each holds,
-- the answer about one with which the command ends, or why they are not decided.
use Rattle.std.specs.Prelude.{◌≡◌, ◌⊎◌, ℕ, List, Some, length, map}
use Rattle.bv_terms.specs.declared.node.Node.{Node}
use Rattle.cert_text.specs.Certifying.{CertsShow}
use Rattle.cnf_core.specs.CertsOf.{instance_of}
use Rattle.cnf_core.specs.declared.certificates.Cert.{Cert as Certificate}
use Rattle.cnf_core.specs.declared.certificates.Instance.{Instance}
use Rattle.cnf_core.specs.declared.log.Log.{Log}
use Rattle.cocoon_num.specs.Tree.{Design}
use Rattle.cocoon_num.specs.declared.limit_name.LimitName.TheVariants.{Clauses, Leaves}
use Rattle.cocoon_types.specs.Limits.{first_above, reported}
use Rattle.failures.specs.Failures as runs
use Rattle.failures.specs.Found.{failure_of}
use Rattle.failures.specs.declared.failure.Failure.{Failure}
use Rattle.failures.specs.Told.{Tells}
use Rattle.obligation_gen.specs.CountedTrees.{most_leaves}
use Rattle.obligation_gen.specs.Counted.{AreFew, all_counts}
use Rattle.obligation_gen.specs.Shown.{kind_in}
use Rattle.obligation_gen.specs.declared.obligation.Obligation.{Obligation}
use Rattle.obligation_laws.specs.Obligations.{Kind, all_obligations}
use Rattle.query_laws.specs.Certified.{HasTooMany}
use Rattle.refinement.specs.Owed.{Refines}
use Rattle.discharge.specs.Answering.{IsSpentOn}
use Rattle.rounds.specs.Outcomes.{IsAsked, IsSpentAfter}
use Rattle.rounds.specs.declared.outcome.Query.{Query}
use Rattle.rounds.specs.declared.outcome.Query.TheVariants.{Goal, Assumption}
use Rattle.runtime_defs.specs.Fitting.{FitsDesign}
use Rattle.cert_text.specs.Keeping.{AreShown, IsShown}
use Rattle.verdicts.specs.Deciding.{formula_in}
use Rattle.verdicts.specs.Failing as verdicts
use Rattle.cert_text.specs.Spent as spent
use Rattle.command_reports.specs.declared.files.CommandFile.TheVariants.{Budget}
use Rattle.command_reports.specs.declared.refusal.Refusal.{Refusal}
use Rattle.command_reports.specs.declared.refusal.Refusal.TheVariants.{OverLimit, NoMemory}
use Rattle.command_answers.specs.Answering.{TellsSpent}
use Rattle.command_answers.specs.Owing.{IsBig, IsFailing, IsGivenUpOn, spent_line, spent_on, verdict_of, word_of}
use Rattle.command_answers.specs.ReportLines.{rounds_line}
use Rattle.command_answers.specs.declared.answer.Answer.{Answer}
use Rattle.command_answers.specs.declared.answer.Writing.TheVariants.{Nothing, Own}
use Rattle.command_answers.specs.declared.obligations.Refined.{Refined}
use Rattle.command_answers.specs.declared.obligations.Refined.TheVariants.{Holds, Ended}
use Rattle.command_answers.specs.declared.obligations.Shown.{Shown}
use Rattle.command_answers.specs.declared.obligations.Shown.TheVariants as shown

-- ---- trees

-- why they are not made: the first that has too many leaves
abbrev pub HasManyLeaves : Design → Refusal → Type 0
HasManyLeaves d (OverLimit limit told) =
    (count : ℕ) × (first_above most_leaves (all_counts d) ≡ Some count) × (limit ≡ Leaves)
    × (told ≡ reported count)
HasManyLeaves d NoMemory = Unit {0}
HasManyLeaves d _ = ⊥

-- ---- one obligation

-- the answer tells a run by which a leaf of this number fails, and nothing is written
pub record TellsRun (d : Design) (kind : Kind) (level leaf : ℕ) (f : runs.Failure) (answer : Answer) : Type 0 where
  pub verdict_ : answer.report.verdict ≡ verdict_of kind
  pub lines_ : Tells d (word_of kind) level leaf f answer.report.lines
  pub written : answer.writing ≡ Nothing

-- the definitions of a query are definitions of the design
abbrev pub HasTables : Design → Query → Type 0
HasTables d (Goal instances) = Unit {0}
HasTables d (Assumption i tables instances) = FitsDesign d tables

-- it fails, or the search for it was given up
pub data IsUnshown (d : Design) (nodes : List Node) (o : Obligation) (conflicts rounds number : ℕ)
    (answer : Answer) : Type 0 where
  by_run : (f : Failure) → verdicts.IsFailureOf d nodes o o.kind f
      → TellsRun d (kind_in o.kind) o.level o.leaf (failure_of d f) answer
      → IsUnshown d nodes o conflicts rounds number answer
  by_conflicts : (q : Query) (vars : ℕ) (log : Log)
      → IsAsked d o.level (formula_in nodes o) rounds q (λ goal. IsSpentOn goal conflicts vars log)
      → TellsSpent (spent_line conflicts number q) (spent_on d number q log) answer
      → IsUnshown d nodes o conflicts rounds number answer
  by_rounds : (instances : List Instance)
      → IsSpentAfter d o.level (formula_in nodes o) rounds instances
      → TellsSpent (rounds_line rounds number) (spent.rounds number (map instance_of instances)) answer
      → IsUnshown d nodes o conflicts rounds number answer

-- a certificate shows it, or the command ends with an answer about it
abbrev pub SaysOne : Design → List Node → Obligation → (conflicts rounds number : ℕ) → Shown → Type 0
SaysOne d nodes o conflicts rounds number (shown.Cert cert) = IsShown d nodes o cert
SaysOne d nodes o conflicts rounds number (shown.Ended answer) =
    IsUnshown d nodes o conflicts rounds number answer

-- why it is not decided
abbrev pub NotOne : Design → List Node → Obligation → (rounds : ℕ) → Refusal → Type 0
NotOne d nodes o rounds (OverLimit limit count) =
    (limit ≡ Clauses) × ((q : Query)
    × IsAsked d o.level (formula_in nodes o) rounds q (λ goal. HasTooMany goal count))
NotOne d nodes o rounds NoMemory = Unit {0}
NotOne d nodes o rounds _ = ⊥

-- ---- all of them

-- one fails, and nothing is written; or the search for one was given up, and the file of that is
pub data IsEnded (d : Design) (conflicts rounds : ℕ) (answer : Answer) : Type 0 where
  fails : (number : ℕ) → IsFailing d number answer.report → answer.writing ≡ Nothing
      → IsEnded d conflicts rounds answer
  given_up : (bytes : List ℕ) → IsGivenUpOn d conflicts rounds answer.report bytes
      → answer.writing ≡ Own Budget bytes → IsEnded d conflicts rounds answer

-- a certificate shows each, or the command ends with an answer about one
abbrev pub SaysAll : Design → List Node → List Obligation → (conflicts rounds : ℕ) → Refined → Type 0
SaysAll d nodes obligations conflicts rounds (Holds certs) = AreShown d nodes obligations certs.certs
SaysAll d nodes obligations conflicts rounds (Ended answer) = IsEnded d conflicts rounds answer

-- why they are not decided
abbrev pub NotAll : Design → (rounds : ℕ) → Refusal → Type 0
NotAll d rounds (OverLimit limit count) = (number : ℕ) × (limit ≡ Clauses) × IsBig d rounds number count
NotAll d rounds NoMemory = Unit {0}
NotAll d rounds _ = ⊥

-- ---- a design

-- no tree has too many leaves, each block keeps what it owes, and the certificates show it, one for each obligation
pub record KeepsAll (d : Design) (certs : List Certificate) : Type 0 where
  pub few : AreFew (all_counts d)
  pub refines : Refines d
  pub shown : CertsShow d certs
  pub counted : length certs ≡ length (all_obligations d)

abbrev pub IsRefined : Design → (conflicts rounds : ℕ) → Refined → Type 0
IsRefined d conflicts rounds (Holds certs) = KeepsAll d certs.certs
IsRefined d conflicts rounds (Ended answer) = AreFew (all_counts d) × IsEnded d conflicts rounds answer

-- why that is not decided: of obligations only where no tree has too many leaves
abbrev pub NotRefined : Design → (rounds : ℕ) → Refusal → Type 0
NotRefined d rounds refusal =
    HasManyLeaves d refusal ⊎ (AreFew (all_counts d) × NotAll d rounds refusal)
