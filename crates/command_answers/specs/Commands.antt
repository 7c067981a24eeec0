-- Cited by the clauses of the commands, and in cocoon_cli by those of shell.rt, and through Outcomes.antt
-- and Leaves.antt by `keeps` of `run`. What each command is: the files that it has, what it asks of them, what it reports
-- where all of that is good, and what it writes. A new command is a case of each. It follows the section
-- "Commands" of README.md, and "Statuses" and "Reports" in docs/FORMATS.md.
use Rattle.std.specs.Prelude.{◌≡◌, ℕ, ◌+◌, true, false, List, [], ◌∷◌, ◌++◌, length, map, Option, Some, None, Ok, codes}
use Rattle.cocoon_types.specs.Design.{last_level}
use Rattle.cocoon_types.specs.Tables.{defs_of}
use Rattle.obligation_laws.specs.Obligations.{all_obligations}
use Rattle.step_cases.specs.Cases as cases
use Rattle.step_cases.specs.Cases.{case_of}
use Rattle.step_cases.specs.Stepping.{Steps}
use Rattle.step_cases.specs.declared.sent.Sent.{Sent}
use Rattle.generator.specs.Arriving.{IsReached}
use Rattle.generator.specs.Counting.{IsCount}
use Rattle.net_bundle.specs.Writing.{AllFit}
use Rattle.packet_runs.specs.Reports.{IsReport}
use Rattle.command_line.specs.Command.{Command, check, compile, update, step, forward, gen}
use Rattle.command_line.specs.Subcommands.{usual_conflicts, usual_rounds}
use Rattle.command_reports.specs.FileNames.{FileNames}
use Rattle.command_reports.specs.Report.{success}
use Rattle.command_reports.specs.declared.files.CommandFile.TheVariants.{Case}
use Rattle.command_reports.specs.declared.report.Report.{Report}
use Rattle.command_answers.specs.ReportLines.{checked_line, compiled_line, generated_line, sent_text, totals_of, updated_line}
use Rattle.command_answers.specs.Steps.{Inputs, OfBoth, OfDesign, OfFiles, OfNetwork, OfPackets, OfText, OfUpdatedFiles, Step, design_reads, design_well_formed, design_within, definitions_read, definitions_fit, definitions_within, lowering_within, assumptions_met, trees_within, obligations_hold, certificates_read, certificates_counted, certificates_accepted, wires_read, wires_same, level_there, lines_formed, packets_judged, copies_within, switch_files_within, certificates_within, network_file_within, bundle_written, sent_within, of_generated, generated}
use Rattle.command_answers.specs.Writing.{Writing, nothing, bundle}

-- the name that stands in reports for what is generated
abbrev pub generated_name : List ℕ
generated_name = codes "gen"

-- the files that it has; all but a bundle that it writes are read first
abbrev pub files_of : Command → FileNames
files_of (check design conflicts rounds) = record {
  design = Some design;
  definitions = None;
  case = None;
  packets = None;
  bundle = None;
  reads_bundle = false;
  makes_texts = false;
}
files_of (compile design defs out conflicts rounds) = record {
  design = Some design;
  definitions = Some defs;
  case = None;
  packets = None;
  bundle = Some out;
  reads_bundle = false;
  makes_texts = false;
}
files_of (update design defs out conflicts) = record {
  design = Some design;
  definitions = Some defs;
  case = None;
  packets = None;
  bundle = Some out;
  reads_bundle = false;
  makes_texts = false;
}
files_of (step design defs level file) = record {
  design = Some design;
  definitions = Some defs;
  case = Some file;
  packets = None;
  bundle = None;
  reads_bundle = false;
  makes_texts = false;
}
files_of (forward out packets hops) = record {
  design = None;
  definitions = None;
  case = None;
  packets = Some packets;
  bundle = Some out;
  reads_bundle = true;
  makes_texts = false;
}
files_of (gen hosts packets) = record {
  design = Some generated_name;
  definitions = Some generated_name;
  case = None;
  packets = None;
  bundle = Some generated_name;
  reads_bundle = false;
  makes_texts = true;
}

-- the bundle that its steps speak of, as it stood before
abbrev pub standing_of : Command → Option (List ℕ)
standing_of (update design defs out conflicts) = Some out
standing_of (forward out packets hops) = Some out
standing_of asked = None

-- the steps on a design, and those after them
abbrev pub design_steps : List Step → List Step
design_steps rest = design_reads ∷ design_well_formed ∷ design_within ∷ rest

-- the steps on a design and on definitions that fit it, and those after them
abbrev pub text_steps : List Step → List Step
text_steps rest =
    design_steps (definitions_read ∷ definitions_fit ∷ definitions_within ∷ rest)

-- the steps on what the blocks of a design owe, and those after them
abbrev pub owed_steps : (conflicts rounds : ℕ) → List Step → List Step
owed_steps conflicts rounds rest = trees_within ∷ obligations_hold conflicts rounds ∷ rest

-- the steps on the certificates that stand under a name, and those after them
abbrev pub certificate_steps : (out : List ℕ) → List Step → List Step
certificate_steps out rest =
    certificates_read out ∷ trees_within ∷ certificates_counted out ∷ certificates_accepted out
    ∷ rest

-- those on the wires under that name and on the network
abbrev pub rewiring_steps : (out : List ℕ) → List Step
rewiring_steps out = wires_read out ∷ lowering_within ∷ wires_same out ∷ []

-- the steps of `compile` after those of reading
abbrev pub compile_steps : (conflicts rounds : ℕ) → List Step
compile_steps conflicts rounds =
    text_steps (assumptions_met conflicts ∷ owed_steps conflicts rounds (lowering_within ∷ []))

-- and those of writing
abbrev pub writing_steps : List Step
writing_steps =
    switch_files_within ∷ certificates_within ∷ network_file_within ∷ bundle_written ∷ []

-- these steps, of the texts that are generated for so many hosts
abbrev pub all_of_generated : (hosts : ℕ) → List Step → List Step
all_of_generated hosts steps = map (of_generated hosts) steps

-- what it asks of what was read
abbrev pub asks : Command → List Step
asks (check design conflicts rounds) = design_steps (owed_steps conflicts rounds [])
asks (compile design defs out conflicts rounds) = compile_steps conflicts rounds
asks (update design defs out conflicts) =
    text_steps (assumptions_met conflicts ∷ certificate_steps out (rewiring_steps out))
asks (step design defs level file) = text_steps (level_there level ∷ lines_formed level ∷ [])
asks (forward out packets hops) = packets_judged out ∷ copies_within out hops ∷ []
asks (gen hosts packets) =
    all_of_generated hosts (compile_steps usual_conflicts usual_rounds
    ++ (writing_steps ++ (sent_within hosts packets ∷ [])))

-- its steps of writing
abbrev pub writes : Command → List Step
writes (check design conflicts rounds) = []
writes (compile design defs out conflicts rounds) = writing_steps
writes (update design defs out conflicts) =
    switch_files_within ∷ network_file_within ∷ bundle_written ∷ []
writes (step design defs level file) = []
writes (forward out packets hops) = []
writes (gen hosts packets) = []

-- its report, where all steps are good
abbrev pub Reports : Command → Inputs → Report → Type 0
Reports (check name conflicts rounds) inputs report =
    OfDesign inputs (λ _ design. report
    ≡ success (checked_line (last_level design + 1) (length (all_obligations design))))
Reports (compile name defs_name out conflicts rounds) inputs report =
    OfNetwork inputs (λ _ design net.
    report ≡ success (compiled_line (totals_of (length (all_obligations design)) net)))
Reports (update name defs_name out conflicts) inputs report =
    OfNetwork inputs (λ _ design net.
    report ≡ success (updated_line (totals_of (length (all_obligations design)) net)))
Reports (step design defs level file) inputs report =
    OfBoth inputs (λ d entries. OfText inputs Case (λ text.
    (case : cases.Case) × (sent : Option Sent) × (case_of level d text ≡ Ok case)
    × Steps level d (defs_of d entries) case sent × (report ≡ success (sent_text sent))))
Reports (forward out file hops) inputs report =
    OfPackets inputs out (λ net packets.
    (lines : List ℕ) × IsReport net hops packets lines × (report ≡ success lines))
Reports (gen hosts packets) inputs report =
    OfBoth (generated hosts) (λ design entries. (delivered : ℕ)
    × IsCount (IsReached design (defs_of design entries) hosts) packets delivered
    × (report ≡ success (generated_line hosts packets delivered)))

-- what it writes, where all steps are good
abbrev pub Writes : Command → Inputs → Writing → Type 0
Writes (check design conflicts rounds) inputs w = w ≡ nothing
Writes (compile design defs out conflicts rounds) inputs w =
    OfFiles inputs (λ files. AllFit files × (w ≡ bundle out files))
Writes (update design defs out conflicts) inputs w =
    OfUpdatedFiles inputs (λ files. AllFit files × (w ≡ bundle out files))
Writes (step design defs level file) inputs w = w ≡ nothing
Writes (forward out packets hops) inputs w = w ≡ nothing
Writes (gen hosts packets) inputs w = w ≡ nothing
