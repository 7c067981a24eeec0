-- Cited by `keeps` of `run` and by the clauses of shell.rt. What the top call promises. It follows
-- "Statuses" and "Reports" in docs/FORMATS.md.
use Rattle.std.specs.Prelude.{◌≡◌, ◌⊎◌, ℕ, List, Option, Some, None, Result, codes, option_and_then}
use Rattle.std.specs.FinMap.{get}
use Rattle.cocoon_io.specs.Files.{Files}
use Rattle.cocoon_io.specs.Calls.{appended, with_file}
use Rattle.command_reports.specs.declared.files.CommandFile.{CommandFile}
use Rattle.command_reports.specs.declared.files.CommandFile.TheVariants.{Budget}
use Rattle.command_reports.specs.declared.refusal.Refusal.{Refusal}
use Rattle.command_reports.specs.declared.report.Report.{Report}
use Rattle.command_reports.specs.declared.status.Status.{Status}
use Rattle.command_reports.specs.declared.status.Status.TheVariants.{Done, Usage, ReadFault, WriteFault, NoMemory, Budget as BudgetSpent}
use Rattle.command_line.specs.Command.{Command}
use Rattle.command_line.specs.Words.{command}
use Rattle.command_reports.specs.FileNames.{FileNames, HasName, name_of}
use Rattle.command_answers.specs.Commands.{Reports, files_of, standing_of}
use Rattle.command_answers.specs.FolderCalls.{Count, Counted, CountsFault, Uncounted}
use Rattle.command_answers.specs.Outcomes.{Agree, Answers, FirstWith, HasOutcome, is_any_searched, steps}
use Rattle.command_answers.specs.Steps.{Inputs, Spends, Step}
use Rattle.command_reports.specs.Report.{Ending, IsEnding, Prints, fault_in, line_with, usage}
use Rattle.cocoon_cli.specs.Leaves.{Leaves, LeavesSome, LeavesWhole}

-- ---- one call

-- a call: its words, the content of the folder and the output of the sink before and after it, the
-- counts of faults of reads, writes and puts, and the answer
pub record Call : Type 0 where
  pub words : List (List ℕ)
  pub content_before : Option Files
  pub content_after : Option Files
  pub output_before : Option (List ℕ)
  pub output_after : Option (List ℕ)
  pub reads : Count
  pub writes : Count
  pub puts : Count
  pub status : Status

-- ---- what a command does

-- what a folder has under these names
abbrev pub inputs_of : FileNames → Files → Inputs
inputs_of names files =
    record { file = λ file. option_and_then (get files) (name_of names file); content = Some files }

-- this is read of it; of a folder whose content is not known it may be anything
abbrev pub InputsAre : FileNames → Option Files → Inputs → Type 0
InputsAre names None inputs = Unit {0}
InputsAre names (Some files) inputs = inputs ≡ inputs_of names files

-- a command has this outcome by what it reads, and leaves this in the folder
pub record Performs (c : Command) (before after : Option Files) (outcome : Result Report Refusal)
    : Type 0 where
  pub inputs : Inputs
  pub inputs_are : InputsAre (files_of c) before inputs
  pub answers : Answers c inputs outcome
  pub leaves : Leaves c inputs before after outcome

-- a command has an outcome, and its ending is printed
pub record Cause (c : Command) (call : Call) : Type 0 where
  pub outcome : Result Report Refusal
  pub performs : Performs c call.content_before call.content_after outcome
  pub counts : CountsFault call.reads call.writes (fault_in outcome)
  pub ending : Ending
  pub is_ending : IsEnding (files_of c) outcome ending
  pub prints : Prints (Counted call.puts) ending
      call.output_before call.output_after call.status

-- words that are no command touch no file, and the usage line is printed
abbrev pub CauseOf : Option Command → Call → Type 0
CauseOf None call =
    ((call.content_after ≡ call.content_before) × Uncounted call.reads × Uncounted call.writes)
    × Prints (Counted call.puts) usage call.output_before call.output_after call.status
CauseOf (Some c) call = Cause c call

-- the line of words that are a command names the file of the folder's last call that failed
abbrev pub LineNames : (List ℕ → Type 0) → List ℕ → Option Command → Call → Type 0
LineNames last_failure prefix None call = ⊥
LineNames last_failure prefix (Some c) call =
    (file : CommandFile) × HasName (files_of c) file (λ name. last_failure name
    × (call.output_after ≡ appended call.output_before (line_with prefix name)))

-- ---- the outcome

-- the status and the whole line are these
abbrev pub EndsWith : Call → Ending → Type 0
EndsWith call e =
    (call.status ≡ e.status) × (call.output_after ≡ appended call.output_before e.report)

-- the answer yields to a fault that was counted, or is out of memory
pub data Yields (call : Call) : Type 0 where
  to_read_fault : call.status ≡ ReadFault → Counted call.reads → Yields call
  to_write_fault : call.status ≡ WriteFault → Counted call.writes ⊎ Counted call.puts → Yields call
  to_no_memory : call.status ≡ NoMemory → Yields call

-- The content of the folder is known, if the steps of the command speak of a bundle in it.
abbrev pub IsKnown : Option (List ℕ) → Inputs → Type 0
IsKnown None inputs = Unit {0}
IsKnown (Some out) inputs = (files : Files) × (inputs.content ≡ Some files)

-- A command has no other outcome, where it is decided without a search; else any other agrees with it.
abbrev pub IsOnly : Command → Inputs → Result Report Refusal → Type 0
IsOnly c inputs outcome =
    IsKnown (standing_of c) inputs → (other : Result Report Refusal) → HasOutcome c inputs other
    → Agree (is_any_searched (steps c)) inputs (steps c) other outcome

-- the outcome of a command over known files, and its ending
pub record TheOutcome (c : Command) (files : Files) : Type 0 where
  pub outcome : Result Report Refusal
  pub holds : HasOutcome c (inputs_of (files_of c) files) outcome
  pub one : IsOnly c (inputs_of (files_of c) files) outcome
  pub ending : Ending
  pub is_ending : IsEnding (files_of c) outcome ending

abbrev pub OutcomeOf : Option Command → Option Files → Call → Type 0
OutcomeOf None content call = EndsWith call usage ⊎ Yields call
OutcomeOf (Some c) None call = Unit {0}
OutcomeOf (Some c) (Some files) call =
    ((the : TheOutcome c files) × EndsWith call the.ending) ⊎ Yields call

-- ---- what is left

-- all steps are good, all that the command writes stands, nothing else was touched, and the whole report
-- was printed
abbrev pub DoneOf : Option Command → Call → Type 0
DoneOf None call = ⊥
DoneOf (Some c) call =
    (inputs : Inputs) × (report : Report) × InputsAre (files_of c) call.content_before inputs
    × Reports c inputs report × LeavesWhole c inputs call.content_before call.content_after
    × (call.output_after ≡ appended call.output_before report.lines)

-- a search spent what it may spend: the file of that stands, and nothing else was touched
pub record IsSpentAt (c : Command) (inputs : Inputs) (report : Report) (before after : Option Files)
    (s : Step) : Type 0 where
  pub bytes : List ℕ
  pub spends : Spends inputs s report bytes
  pub leaves : HasName (files_of c) Budget (λ name. after ≡ with_file before name bytes)

-- the same of a step before which all are good, and the whole report was printed
abbrev pub SpentOf : Option Command → Call → Type 0
SpentOf None call = ⊥
SpentOf (Some c) call =
    (inputs : Inputs) × (report : Report) × InputsAre (files_of c) call.content_before inputs
    × FirstWith inputs (IsSpentAt c inputs report call.content_before call.content_after) (steps c)
    × (call.output_after ≡ appended call.output_before report.lines)

-- the folder is as it was, or holds a part of what is written, or all
abbrev pub LeavesOf : Option Command → Call → Type 0
LeavesOf None call = call.content_after ≡ call.content_before
LeavesOf (Some c) call =
    (inputs : Inputs) × InputsAre (files_of c) call.content_before inputs
    × LeavesSome c inputs call.content_before call.content_after

-- only these statuses may leave another folder than there was
pub data MayWrite : Status → Type 0 where
  done : {s : Status} → s ≡ Done → MayWrite s
  spent : {s : Status} → s ≡ BudgetSpent → MayWrite s
  failed : {s : Status} → s ≡ WriteFault → MayWrite s
  no_memory : {s : Status} → s ≡ NoMemory → MayWrite s

-- only these statuses may come where a fault of the folder was counted
pub data MayCount : Status → Type 0 where
  of_read : {s : Status} → s ≡ ReadFault → MayCount s
  of_write : {s : Status} → s ≡ WriteFault → MayCount s
  of_memory : {s : Status} → s ≡ NoMemory → MayCount s

-- ---- the whole promise

abbrev pub UsageOf : Option Command → Status → Type 0
UsageOf None status = (status ≡ Usage) ⊎ ((status ≡ WriteFault) ⊎ (status ≡ NoMemory))
UsageOf (Some c) status = (status ≡ Usage) → ⊥

-- What a call keeps, one fact a field. Which name the folder's last call that failed may have had
-- is a parameter. What follows from these is the law `calls_keep_more`.
pub record Keeps (last_failure : List ℕ → Type 0) (call : Call) : Type 0 where
  -- every answer has its cause, and the report is that of the cause
  pub cause : CauseOf (command call.words) call
  -- over known files the status and the line are those of the one outcome of the words, or the
  -- answer yields
  pub outcome : OutcomeOf (command call.words) call.content_before call
  -- what is left in the folder
  pub leaves : LeavesOf (command call.words) call
  -- the line of a fault of the folder names the very file, unless the sink failed
  pub read_fault_line : call.status ≡ ReadFault
      → LineNames last_failure (codes "read fault ") (command call.words) call
  pub write_fault_line : call.status ≡ WriteFault
      → LineNames last_failure (codes "write fault ") (command call.words) call
      ⊎ Counted call.puts

-- what follows from them
pub record KeepsMore (call : Call) : Type 0 where
  -- `Usage` comes exactly where the words are no command; it yields to the sink, and to out of
  -- memory
  pub usage : UsageOf (command call.words) call.status
  -- the status of a fault comes only where a fault was counted
  pub read_fault : call.status ≡ ReadFault → Counted call.reads
  pub write_fault : call.status ≡ WriteFault → Counted call.writes ⊎ Counted call.puts
  -- where none of these statuses comes, no read and no write failed
  pub none_failed : MayCount call.status ⊎ (Uncounted call.reads × Uncounted call.writes)
  -- what is left in the folder and in the sink
  pub done_leaves : call.status ≡ Done → DoneOf (command call.words) call
  pub spent_leaves : call.status ≡ BudgetSpent → SpentOf (command call.words) call
  pub unchanged : MayWrite call.status ⊎ (call.content_after ≡ call.content_before)
