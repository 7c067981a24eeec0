-- Cited by the clauses of reading.rt, writing.rt and shell.rt. What one call of the shell
-- does: it reads the files of a command, asks the command for its answer over what was read, and writes
-- what the answer says.
use Rattle.std.specs.Prelude.{◌≡◌, ◌⊎◌, ◌≤◌, ◌<◌, ◌^◌, ℕ, List, length, Option, Some, None, Result, Err, IsTrue}
use Rattle.cocoon_io.specs.Files.{Files}
use Rattle.cocoon_io.specs.Calls.{with_file}
use Rattle.net_run.specs.Nets.{net_in}
use Rattle.net_run.specs.declared.net.Net.{Net}
use Rattle.net_bundle.specs.Bundle as bundle_of
use Rattle.net_bundle.specs.Writing.{AllFit, ContentHolds, NotWritten}
use Rattle.p4_ir.specs.NetFits.{net_fits}
use Rattle.net_bundle.specs.declared.fault.BundleFault.{BundleFault}
use Rattle.shared_net.specs.Shared.{shared_of}
use Rattle.bundle_reader.specs.Readings.{ContentReads}
use Rattle.command_line.specs.Command.{Command, check, compile, update, step, forward, gen}
use Rattle.command_reports.specs.FileNames.{FileNames, bundle_in, name_of, wanted}
use Rattle.command_reports.specs.Refusals.{bundle_refusal}
use Rattle.command_reports.specs.Report.{fault_of}
use Rattle.command_reports.specs.declared.files.CommandFile.{CommandFile}
use Rattle.command_reports.specs.declared.files.CommandFile.TheVariants.{Design, Definitions, Case, Packets}
use Rattle.command_reports.specs.declared.refusal.Refusal.{Refusal}
use Rattle.command_reports.specs.declared.refusal.Refusal.TheVariants.{WriteFault, NoMemory}
use Rattle.command_reports.specs.declared.report.Report.{Report}
use Rattle.command_answers.specs.declared.answer.Answer.{Answer}
use Rattle.command_answers.specs.declared.answer.Writing.{Writing as Written}
use Rattle.command_answers.specs.declared.answer.Writing.TheVariants as written
use Rattle.command_answers.specs.Answering.{PlansBy}
use Rattle.command_answers.specs.Commands.{files_of, writes}
use Rattle.command_answers.specs.Compiling.{Compiles}
use Rattle.command_answers.specs.Outcomes.{AllGood, Ends, reads}
use Rattle.command_answers.specs.FolderCalls.{Called, Count, IsReading}
use Rattle.command_answers.specs.Steps.{Inputs}
use Rattle.command_answers.specs.Updating.{StandsUnder, Updates}
use Rattle.command_answers.specs.Writing.{Writing, nothing, bundle, own, with_writing}
use Rattle.cocoon_cli.specs.declared.reading.Read.{Read}
use Rattle.cocoon_cli.specs.Reading.{FileNotRead, HasFile, IsRead, IsUnread}
use Rattle.cocoon_cli.specs.Run.{InputsAre, Performs}

-- ---- files

-- the folder gives these bytes, if there is such a file
abbrev pub HasWanted : Option Files → Option (List ℕ × ℕ) → List ℕ → Type 0
HasWanted content None bytes = Unit {0}
HasWanted content (Some (name, most)) bytes =
    HasFile content name most bytes × (length bytes ≤ most)

-- why it gives none
abbrev pub LacksWanted : Option Files → CommandFile → Option (List ℕ × ℕ) → Refusal → Type 0
LacksWanted content file None r = ⊥
LacksWanted content file (Some (name, most)) r = FileNotRead content name file most r

-- the folder gives this network, if the command reads a bundle
abbrev pub HasNet : Option Files → Option (List ℕ) → Option Net → Type 0
HasNet content None net = Unit {0}
HasNet content (Some out) None = ⊥
HasNet content (Some out) (Some net) = IsRead content out net

-- why it gives none
abbrev pub LacksNet : Option Files → Option (List ℕ) → Refusal → Type 0
LacksNet content None r = ⊥
LacksNet content (Some out) r = IsUnread content out r

-- ---- what was read

-- these bytes were read of a file, if it is read
abbrev pub Given : Inputs → CommandFile → Option (List ℕ × ℕ) → List ℕ → Type 0
Given inputs file None bytes = Unit {0}
Given inputs file (Some (name, most)) bytes =
    (inputs.file file ≡ Some bytes) × (length bytes ≤ most)

-- this network was read of a bundle, if one is read
abbrev pub GivenNet : Inputs → Option (List ℕ) → Option Net → Type 0
GivenNet inputs None net = Unit {0}
GivenNet inputs (Some out) None = ⊥
GivenNet inputs (Some out) (Some net) = ContentReads inputs.content out (net_in net)

-- this was read of the files with these names
pub record IsGiven (names : FileNames) (inputs : Inputs) (read : Read) : Type 0 where
  pub design : Given inputs Design (wanted names Design) read.design.items
  pub definitions : Given inputs Definitions (wanted names Definitions) read.definitions.items
  pub case : Given inputs Case (wanted names Case) read.case.items
  pub packets : Given inputs Packets (wanted names Packets) read.packets.items
  pub net : GivenNet inputs (bundle_in names) read.net

-- no text is longer than a reader of texts takes
pub record IsShort (read : Read) : Type 0 where
  pub design : length read.design.items < 2 ^ 31
  pub definitions : length read.definitions.items < 2 ^ 31

-- all that is to be read was read
pub record ReadsAll (names : FileNames) (content : Option Files) (read : Read) : Type 0 where
  pub inputs : Inputs
  pub inputs_are : InputsAre names content inputs
  pub content_is : inputs.content ≡ content
  pub good : AllGood inputs (reads names)
  pub given : IsGiven names inputs read

-- why it was not
pub record ReadsNot (names : FileNames) (content : Option Files) (r : Refusal) : Type 0 where
  pub inputs : Inputs
  pub inputs_are : InputsAre names content inputs
  pub ends : Ends inputs (Err r) (reads names)
  pub reading : IsReading (fault_of r)

-- ---- answers

-- what its answer says is written where all steps are good, of what was read
abbrev pub PlansDone : Command → Read → Written → Type 0
PlansDone (check design conflicts rounds) read w = w ≡ written.Nothing
PlansDone (compile design defs out conflicts rounds) read w =
    Compiles out read.design.items read.definitions.items w
PlansDone (update design defs out conflicts) read w =
    Updates out read.design.items read.definitions.items w
PlansDone (step design defs level file) read w = w ≡ written.Nothing
PlansDone (forward out packets hops) read w = w ≡ written.Nothing
PlansDone (gen hosts packets) read w = w ≡ written.Nothing

-- what its answer says is written
abbrev pub Plans : Command → Read → Answer → Type 0
Plans c read answer = PlansBy (λ w. PlansDone c read w) answer.report.verdict answer.writing

-- what stands in the folder of what it plans
abbrev pub StandsFor : Command → Option Files → Read → Written → Type 0
StandsFor (update design defs out conflicts) content read w =
    StandsUnder content out read.design.items w
StandsFor asked content read w = Unit {0}

-- ---- writes

-- one file, if there is a name for it
abbrev pub own_file : CommandFile → Option (List ℕ) → List ℕ → Writing
own_file file None bytes = nothing
own_file file (Some name) bytes = own file name bytes

-- what stands in the folder where it is written
abbrev pub writing_of : FileNames → Read → Written → Writing
writing_of names read written.Nothing = nothing
writing_of names read (written.Bundle name net certificates) =
    bundle name.now (bundle_of.bundle read.design.items (shared_of net) certificates)
writing_of names read (written.Own file bytes) = own_file file (name_of names file) bytes

-- it may be written: a bundle is the one that is named, and can be read back
abbrev pub CanWrite : FileNames → Written → Type 0
CanWrite names (written.Bundle name net certificates) =
    (names.bundle ≡ Some name.now) × IsTrue (net_fits (shared_of net))
CanWrite names w = Unit {0}

-- no file of a bundle is longer than it may be
abbrev pub Fits : Writing → Type 0
Fits nothing = Unit {0}
Fits (bundle out files) = AllFit files
Fits (own file name bytes) = Unit {0}

-- it is all written, and all of it fits
pub record AllWritten (w : Writing) (before after : Option Files) : Type 0 where
  pub fits : Fits w
  pub stands : after ≡ with_writing w before

-- a bundle that was written gives its network
abbrev pub HoldsNet : Read → Written → (before after : Option Files) → Type 0
HoldsNet read (written.Bundle name net certificates) before after =
    ContentHolds before after name.now read.design.items (shared_of net) certificates
HoldsNet read w before after = Unit {0}

-- why it was not all written
abbrev pub NotAllWritten : Writing → (before after : Option Files) → Refusal → Type 0
NotAllWritten nothing before after r = (r ≡ NoMemory) × (after ≡ before)
NotAllWritten (bundle out files) before after r =
    (fault : BundleFault) × NotWritten out files before after fault × (r ≡ bundle_refusal fault)
NotAllWritten (own file name bytes) before after r =
    ((r ≡ NoMemory) × (after ≡ before))
    ⊎ ((r ≡ WriteFault file) × ((after ≡ before) ⊎ (after ≡ with_file before name bytes)))

-- ---- a command

-- what a command does to a folder
pub record Acts (last_failure : List ℕ → Type 0) (c : Command) (before after : Option Files)
    (reads writes : Count) (outcome : Result Report Refusal) : Type 0 where
  pub performs : Performs c before after outcome
  pub called : Called last_failure (files_of c) reads writes outcome
