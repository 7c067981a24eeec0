-- Cited by the clauses of the commands, and in cocoon_cli by `one_outcome` and through Run.antt by
-- `keeps` of `run`. The outcome of a command: that of the first of its steps that is not good, or else its
-- report. It follows "Statuses" in docs/FORMATS.md.
use Rattle.std.specs.Prelude.{◌≡◌, ◌⊎◌, ℕ, Bool, true, false, List, [], ◌∷◌, ◌++◌, ◌||◌, Option, Some, None, Result, Ok, Err}
use Rattle.failures.specs.FailureTexts.{first_line}
use Rattle.obligation_laws.specs.Obligations.{Kind}
use Rattle.command_line.specs.Command.{Command}
use Rattle.command_reports.specs.FileNames.{FileNames, bundle_in, wanted}
use Rattle.command_reports.specs.declared.files.CommandFile.{CommandFile}
use Rattle.command_reports.specs.declared.files.CommandFile.TheVariants.{Design, Definitions, Case, Packets}
use Rattle.command_reports.specs.declared.refusal.Refusal.{Refusal}
use Rattle.command_reports.specs.declared.refusal.Refusal.TheVariants as refusal
use Rattle.command_reports.specs.declared.report.Report.{Report}
use Rattle.command_answers.specs.Commands.{Reports, asks, files_of, writes}
use Rattle.command_answers.specs.Owing.{verdict_of, word_of}
use Rattle.command_answers.specs.Steps.{Inputs, Step, Decides, GivesUp, IsGood, Stops, bundle_reads, is_searched, is_there, is_within}

-- ---- the steps of a command

-- those on a file that it reads by a name of its own: none if it reads no such file
abbrev pub file_steps : CommandFile → Option (List ℕ × ℕ) → List Step
file_steps file None = []
file_steps file (Some (name, most)) = is_there file ∷ is_within file most ∷ []

-- those on a bundle that it reads
abbrev pub bundle_steps : Option (List ℕ) → List Step
bundle_steps None = []
bundle_steps (Some out) = bundle_reads out ∷ []

-- what is read: the files in this order, then a bundle
abbrev pub reads : FileNames → List Step
reads names =
    file_steps Design (wanted names Design) ++ (file_steps Definitions (wanted names Definitions)
    ++ (file_steps Case (wanted names Case) ++ (file_steps Packets (wanted names Packets)
    ++ bundle_steps (bundle_in names))))

-- all steps of a command, in their order
abbrev pub steps : Command → List Step
steps c = reads (files_of c) ++ (asks c ++ writes c)

-- ---- some steps

-- each of these steps is good
pub data AllGood (inputs : Inputs) : List Step → Type 0 where
  none : AllGood inputs []
  good : {s : Step} {ss : List Step} → IsGood inputs s → AllGood inputs ss → AllGood inputs (s ∷ ss)

-- this holds of one of these steps, before which all are good
pub data FirstWith (inputs : Inputs) (P : Step → Type 0) : List Step → Type 0 where
  here : {s : Step} {ss : List Step} → P s → FirstWith inputs P (s ∷ ss)
  later : {s : Step} {ss : List Step} → IsGood inputs s → FirstWith inputs P ss
      → FirstWith inputs P (s ∷ ss)

-- ---- outcomes

-- the report of a command, as an outcome
abbrev pub ReportsOutcome : Command → Inputs → Result Report Refusal → Type 0
ReportsOutcome c inputs (Ok report) = Reports c inputs report
ReportsOutcome c inputs (Err r) = ⊥

-- a step decides the outcome, or a search is given up at one
abbrev pub EndsAt : Inputs → Result Report Refusal → Step → Type 0
EndsAt inputs outcome s = Decides inputs s outcome ⊎ GivesUp inputs s outcome

-- the outcome of a command by what is read of its files
abbrev pub HasOutcome : Command → Inputs → Result Report Refusal → Type 0
HasOutcome c inputs outcome =
    FirstWith inputs (EndsAt inputs outcome) (steps c)
    ⊎ (AllGood inputs (steps c) × ReportsOutcome c inputs outcome)

-- ---- of two outcomes over the same files

-- a report of this kind of failure that tells this leaf first
abbrev pub failed_leaf : Kind → (level : ℕ) (role : List ℕ) (leaf : ℕ) → (rest : List ℕ) → Report
failed_leaf kind level role leaf rest =
    record { verdict = verdict_of kind; lines = first_line (word_of kind) level role leaf ++ rest }

-- They are equal, or a search may answer one in place of the other.
pub data Alike (x y : Result Report Refusal) : Type 0 where
  equal : x ≡ y → Alike x y
  -- the same assumption is broken, at values that may be others
  broken : {number : ℕ} {values other : List ℕ} → x ≡ Err (refusal.Broken number values)
      → y ≡ Err (refusal.Broken number other) → Alike x y
  -- the same leaf fails, by runs that may be others
  failed : (kind : Kind) (level : ℕ) (role : List ℕ) (leaf : ℕ) (rest other : List ℕ)
      → x ≡ Ok (failed_leaf kind level role leaf rest)
      → y ≡ Ok (failed_leaf kind level role leaf other) → Alike x y

-- a search was given up
abbrev pub IsGivenUp : Inputs → List Step → Result Report Refusal → Type 0
IsGivenUp inputs ss outcome = FirstWith inputs (λ s. GivesUp inputs s outcome) ss

-- whether one of these steps is decided by a search
abbrev pub is_any_searched : List Step → Bool
is_any_searched [] = false
is_any_searched (s ∷ ss) = is_searched s || is_any_searched ss

-- Of steps that are all decided without a search there is one outcome. Else two are alike, or a
-- search was given up in one of them.
abbrev pub Agree : (searched : Bool) → Inputs → List Step → (x y : Result Report Refusal) → Type 0
Agree false inputs ss x y = x ≡ y
Agree true inputs ss x y = Alike x y ⊎ (IsGivenUp inputs ss x ⊎ IsGivenUp inputs ss y)

-- ---- answers

-- a fault of the folder stops a step
abbrev pub StopsAt : Inputs → Result Report Refusal → Step → Type 0
StopsAt inputs (Ok report) s = ⊥
StopsAt inputs (Err r) s = Stops inputs s r

-- Some steps end a command with this: it is out of memory, which it may be anywhere; a step ends it
-- before which all are good; or a fault of the folder stops such a step.
pub data Ends (inputs : Inputs) (outcome : Result Report Refusal) (ss : List Step) : Type 0 where
  no_memory : outcome ≡ Err refusal.NoMemory → Ends inputs outcome ss
  at_step : FirstWith inputs (EndsAt inputs outcome) ss → Ends inputs outcome ss
  at_fault : FirstWith inputs (StopsAt inputs outcome) ss → Ends inputs outcome ss

-- what a command answers
abbrev pub Answers : Command → Inputs → Result Report Refusal → Type 0
Answers c inputs outcome =
    Ends inputs outcome (steps c) ⊎ (AllGood inputs (steps c) × ReportsOutcome c inputs outcome)
