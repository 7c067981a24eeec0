-- Cited by the clauses of the commands, and in cocoon_cli by those of shell.rt. What a command answers over what was read of its
-- files; where a step ends it that is no refusal: a verdict, or a search that was given up, with the file of that.
use Rattle.std.specs.Prelude.{◌≡◌, ◌⊎◌, ℕ, List, ◌++◌, Result, Ok, Err}
use Rattle.cert_text.specs.BudgetJson.{IsBudgetFile}
use Rattle.cert_text.specs.Spent.{Spent}
use Rattle.command_line.specs.Command.{Command}
use Rattle.command_reports.specs.Report.{given_up}
use Rattle.command_reports.specs.declared.files.CommandFile.TheVariants.{Budget}
use Rattle.command_reports.specs.declared.refusal.Refusal.{Refusal}
use Rattle.command_reports.specs.declared.report.Report.{Report}
use Rattle.command_reports.specs.declared.report.Verdict.{Verdict}
use Rattle.command_reports.specs.declared.report.Verdict.TheVariants as verdict
use Rattle.command_answers.specs.Commands.{Reports, asks, writes}
use Rattle.command_answers.specs.Outcomes.{AllGood, Ends, FirstWith}
use Rattle.command_answers.specs.Steps.{Inputs, Step, Judges, Spends}
use Rattle.command_answers.specs.declared.answer.Answer.{Answer}
use Rattle.command_answers.specs.declared.answer.Writing.{Writing as Written}
use Rattle.command_answers.specs.declared.answer.Writing.TheVariants as written

-- what a step answers that ends its command: a verdict, with which nothing is written, or that a search
-- was given up, with its file
abbrev pub IsFound : Inputs → Report → Written → Step → Type 0
IsFound inputs report written.Nothing s = Judges inputs s report
IsFound inputs report (written.Own Budget bytes) s = Spends inputs s report bytes
IsFound inputs report w s = ⊥

-- the file of a search that was given up
abbrev pub IsBudget : Written → Type 0
IsBudget (written.Own Budget bytes) = Unit {0}
IsBudget w = ⊥

-- What is written with a verdict: with a success this, with a search that was given up its file, and
-- with any other nothing.
abbrev pub PlansBy : (Written → Type 0) → Verdict → Written → Type 0
PlansBy Done verdict.Done w = Done w
PlansBy Done verdict.Budget w = IsBudget w
PlansBy Done v w = w ≡ written.Nothing

-- the answer with this verdict and these lines, with which nothing is written
abbrev pub failed_with : Verdict → (lines : List ℕ) → Answer
failed_with v lines =
    record { report = record { verdict = v; lines = lines }; writing = written.Nothing }

-- the answer of a search that was given up: its line, and the file of what was spent
pub record TellsSpent (line : List ℕ) (spent : Spent) (answer : Answer) : Type 0 where
  pub told : answer.report ≡ given_up line
  pub bytes : List ℕ
  pub written : answer.writing ≡ written.Own Budget bytes
  pub file : IsBudgetFile spent bytes

-- ---- a command

-- A command answers this, whatever its inputs are of which this was read: all is good, or a step ends it.
abbrev pub Asked : Command → Inputs → Result Answer Refusal → Type 0
Asked c inputs (Ok answer) =
    (AllGood inputs (asks c) × Reports c inputs answer.report)
    ⊎ FirstWith inputs (IsFound inputs answer.report answer.writing) (asks c)
Asked c inputs (Err r) = Ends inputs (Err r) (asks c ++ writes c)
