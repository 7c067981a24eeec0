-- Cited through Run.antt by `keeps` of `run`. What a command leaves in the folder. It follows "What is
-- left of the files" in README.md.
use Rattle.std.specs.Prelude.{◌≡◌, ◌⊎◌, List, ℕ, Option, Result, Ok, Err}
use Rattle.cocoon_io.specs.Files.{Files}
use Rattle.command_line.specs.Command.{Command}
use Rattle.command_reports.specs.FileNames.{FileNames, HasName}
use Rattle.command_reports.specs.Report.{Fault, by_read, by_write, by_memory, no_fault, fault_of}
use Rattle.command_reports.specs.declared.files.CommandFile.TheVariants.{Budget}
use Rattle.command_reports.specs.declared.refusal.Refusal.{Refusal}
use Rattle.command_reports.specs.declared.report.Report.{Report}
use Rattle.command_answers.specs.Commands.{Reports, Writes, files_of}
use Rattle.command_answers.specs.Outcomes.{AllGood, FirstWith, steps}
use Rattle.command_answers.specs.Steps.{Inputs, Judges, Spends, Step}
use Rattle.command_answers.specs.Writing.{SomeOf, StopsIn, Writing, nothing, own, with_writing}

-- all steps are good, and this is written
abbrev pub IsWhole : Command → Inputs → Writing → Type 0
IsWhole c inputs w = AllGood inputs (steps c) × Writes c inputs w

-- all of that stands, and nothing else was touched
abbrev pub LeavesWhole : Command → Inputs → (before after : Option Files) → Type 0
LeavesWhole c inputs before after =
    (w : Writing) × IsWhole c inputs w × (after ≡ with_writing w before)

-- the step ends the command with this report, with which this is written: nothing with a verdict, and of
-- a search that is given up the file of what it spent
abbrev pub EndsWriting : FileNames → Inputs → Report → Writing → Step → Type 0
EndsWriting names inputs report w s =
    (Judges inputs s report × (w ≡ nothing))
    ⊎ ((bytes : List ℕ) × Spends inputs s report bytes
    × HasName names Budget (λ name. w ≡ own Budget name bytes))

-- this is written with a report: all that the command writes where all steps are good, or what the step
-- says that ends the command
abbrev pub IsWritten : Command → Inputs → Report → Writing → Type 0
IsWritten c inputs report w =
    (IsWhole c inputs w × Reports c inputs report)
    ⊎ FirstWith inputs (EndsWriting (files_of c) inputs report w) (steps c)

-- where there is a report: all that is written with it stands, and nothing else was touched
abbrev pub LeavesAll : Command → Inputs → Report → (before after : Option Files) → Type 0
LeavesAll c inputs report before after =
    (w : Writing) × IsWritten c inputs report w × (after ≡ with_writing w before)

-- the folder is as it was, or has a part of what is written with a report
abbrev pub LeavesSome : Command → Inputs → (before after : Option Files) → Type 0
LeavesSome c inputs before after =
    (after ≡ before)
    ⊎ ((report : Report) × (w : Writing) × IsWritten c inputs report w × SomeOf w before after)

-- where there is a refusal; a write fault is about the file at which the writes stopped
abbrev pub LeavesFault : Command → Inputs → (before after : Option Files) → Fault → Type 0
LeavesFault c inputs before after (by_read file) = after ≡ before
LeavesFault c inputs before after (by_write file) =
    (report : Report) × (w : Writing) × IsWritten c inputs report w × StopsIn w file before after
LeavesFault c inputs before after by_memory = LeavesSome c inputs before after
LeavesFault c inputs before after no_fault = after ≡ before

-- what a command with this outcome leaves
abbrev pub Leaves : Command → Inputs → (before after : Option Files) → Result Report Refusal
    → Type 0
Leaves c inputs before after (Ok report) = LeavesAll c inputs report before after
Leaves c inputs before after (Err r) = LeavesFault c inputs before after (fault_of r)
