-- Cited by the clauses of assumptions.rt and compile.rt. What is answered of the assumptions of a design under its
-- tables: nothing where all are met, the answer of a search that was given up, or why `compile` stops.
use Rattle.std.specs.Prelude.{◌≡◌, ℕ, Option, Some, None, codes}
use Rattle.cnf_core.specs.CertsOf.{log_of}
use Rattle.cnf_core.specs.declared.log.Log.{Log}
use Rattle.cocoon_num.specs.Tree.{Design}
use Rattle.cocoon_num.specs.declared.limit_name.LimitName.TheVariants.{Clauses}
use Rattle.runtime_defs.specs.EntryPlaces.{defs_text}
use Rattle.runtime_defs.specs.Places.{Places}
use Rattle.cert_text.specs.Spent.{given}
use Rattle.discharge.specs.Answering.{Answers}
use Rattle.discharge.specs.declared.meeting.Met.TheVariants as met
use Rattle.command_reports.specs.declared.refusal.Refusal.{Refusal}
use Rattle.command_reports.specs.declared.refusal.Refusal.TheVariants.{Broken, OverLimit, NoMemory}
use Rattle.command_answers.specs.Answering.{TellsSpent}
use Rattle.command_answers.specs.ReportLines.{budget_line}
use Rattle.command_answers.specs.declared.answer.Answer.{Answer}

-- the answer tells of conflicts that were spent on the assumption of this number, and writes the file of that
abbrev pub TellsAssumption : Design → Places → (conflicts number : ℕ) → Log → Answer → Type 0
TellsAssumption d tables conflicts number log answer =
    TellsSpent (budget_line conflicts (codes "assumption") number)
    (given number (defs_text d tables) (log_of log)) answer

-- the search for one assumption was given up
pub record AnswersSpent (d : Design) (tables : Places) (conflicts : ℕ) (answer : Answer) : Type 0 where
  pub number : ℕ
  pub vars : ℕ
  pub log : Log
  pub spent : Answers d tables conflicts (met.SpentConflicts number vars log)
  pub tells : TellsAssumption d tables conflicts number log answer

-- nothing where the definitions meet all
abbrev pub AnswersUnmet : Design → Places → (conflicts : ℕ) → Option Answer → Type 0
AnswersUnmet d tables conflicts None = Answers d tables conflicts met.Yes
AnswersUnmet d tables conflicts (Some answer) = AnswersSpent d tables conflicts answer

-- why `compile` stops
abbrev pub NotMet : Design → Places → (conflicts : ℕ) → Refusal → Type 0
NotMet d tables conflicts (Broken number values) =
    Answers d tables conflicts (met.Broken number values)
NotMet d tables conflicts (OverLimit limit count) =
    (number : ℕ) × (limit ≡ Clauses) × Answers d tables conflicts (met.Big number count)
NotMet d tables conflicts NoMemory = Unit {0}
NotMet d tables conflicts _ = ⊥
