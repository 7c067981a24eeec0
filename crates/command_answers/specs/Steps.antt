-- Cited by the clauses of the commands, and in cocoon_cli by `one_outcome` and through Run.antt by
-- `keeps` of `run`. The steps of commands, and how each may end one. A step looks at what is read of the
-- command's files; each is a case of its own. A new rule or limit of designs adds none. It follows
-- "Statuses" in docs/FORMATS.md.
use Rattle.std.specs.Prelude.{◌≡◌, ◌≤◌, ◌<◌, ℕ, suc, Bool, true, false, List, length, Option, Some, None, Result, Ok, Err, codes}
use Rattle.std.specs.List.{AllZip}
use Rattle.cert_text.specs.Certifying.{Certifies}
use Rattle.cert_text.specs.Rechecking.{AreNotAsMany, IsAccepted}
use Rattle.cnf_core.specs.declared.certificates.Cert.{Cert as Certificate}
use Rattle.cocoon_num.specs.Lists.{first_of}
use Rattle.cocoon_num.specs.Tree as tree
use Rattle.cocoon_num.specs.declared.limit_name.LimitName.{LimitName}
use Rattle.cocoon_num.specs.declared.limit_name.LimitName.TheVariants.{Rows, Packet as PacketLimit, Copies, Clauses, Leaves}
use Rattle.cocoon_num.specs.Reads.{Reads, ReadsDefs}
use Rattle.cocoon_num.specs.FirstFaults.{BeginsDesign, BeginsDefs}
use Rattle.cocoon_text.specs.Positions.{token_position}
use Rattle.cocoon_text.specs.TextFaults.{FirstFault}
use Rattle.cocoon_text.specs.declared.fault.TextFault.{TextFault}
use Rattle.cocoon_types.specs.DefsRules.{DefsFault, DefsFit, defs_faults}
use Rattle.cocoon_types.specs.FirstFault as rules
use Rattle.cocoon_types.specs.Limits.{WithinLimits, first_above, reported}
use Rattle.cocoon_types.specs.RuleNames.{fault_at}
use Rattle.cocoon_types.specs.Rules.{WellFormed}
use Rattle.cocoon_types.specs.declared.fault.TypeRule.{TypeRule}
use Rattle.cocoon_resolve.specs.First.{IsFirstOver}
use Rattle.cocoon_io.specs.Files.{Files}
use Rattle.p4_ir.specs.NetTree.{NetData}
use Rattle.p4_ir.specs.Wiring.{host_numbers}
use Rattle.bundle_reader.specs.Readings.{ContentFault, ContentReads}
use Rattle.bundle_reader.specs.declared.fault.ReadFault.{ReadFault}
use Rattle.generator.specs.Stopping as sent
use Rattle.generator.specs.Definitions.{definitions_text}
use Rattle.generator.specs.Design.{design_text}
use Rattle.net_run.specs.RunCounts.{most_runs}
use Rattle.net_wiring.specs.Differences.{FirstOfWires, SameWires}
use Rattle.net_wiring.specs.declared.wiring.Wiring.{Wiring}
use Rattle.packet_runs.specs.Packets.{Packet, packets_in}
use Rattle.packet_runs.specs.declared.packet.PacketFault.{PacketFault}
use Rattle.packet_runs.specs.declared.packet.PacketFault.TheVariants as packets
use Rattle.packet_runs.specs.Stopping.{AllWithin, SomeOver}
use Rattle.net_bundle.specs.Bundle.{MadeFile, all_switch_files, bundle, net_text}
use Rattle.net_bundle.specs.Writing.{AllFit, FirstOver, most_of}
use Rattle.net_bundle.specs.declared.file.BundleFile.{BundleFile}
use Rattle.net_bundle.specs.declared.file.BundleFile.TheVariants as files
use Rattle.obligation_gen.specs.CountedTrees.{most_leaves}
use Rattle.obligation_gen.specs.Counted.{AreFew, all_counts}
use Rattle.obligation_laws.specs.Obligations.{all_obligations}
use Rattle.refinement.specs.Assumptions.{Meets}
use Rattle.refinement.specs.Owed.{Refines}
use Rattle.runtime_defs.specs.Bound.{most_rows, row_count}
use Rattle.lower_p4.specs.Lowers.{Lowers}
use Rattle.lower_p4.specs.LowerLimits.{IsOver, IsWithin}
use Rattle.command_reports.specs.declared.files.CommandFile.{CommandFile}
use Rattle.command_reports.specs.declared.files.CommandFile.TheVariants.{Design, Definitions, Bundle, Case, Packets, Budget}
use Rattle.command_reports.specs.declared.refusal.BundleCause.TheVariants as cause
use Rattle.command_reports.specs.declared.refusal.InputFault.TheVariants.{NoTree, Rule}
use Rattle.command_reports.specs.declared.refusal.DefinitionsFault.TheVariants as definitions
use Rattle.command_reports.specs.declared.refusal.Refusal.{Refusal}
use Rattle.command_reports.specs.declared.refusal.Refusal.TheVariants as refusal
use Rattle.command_reports.specs.declared.report.Report.{Report}
use Rattle.command_reports.specs.Refusals.{IsOfFiles, unread_as}
use Rattle.command_reports.specs.Report.{given_up}
use Rattle.step_cases.specs.Cases as cases
use Rattle.step_cases.specs.Cases.{case_of}
use Rattle.cocoon_types.specs.Design.{last_level}
use Rattle.cocoon_types.specs.Tables.{defs_of}
use Rattle.command_answers.specs.Assumed.{IsBig, IsBroken, IsSpent}
use Rattle.command_answers.specs.Owing as owing
use Rattle.command_answers.specs.Owing.{IsFailing, IsGivenUpOn}
use Rattle.command_answers.specs.ReportLines.{budget_line}
use Rattle.command_answers.specs.Standing.{GivesCertificates, GivesWires, LacksCertificates, LacksWires, NotAccepted}
use Rattle.command_reports.specs.DesignTexts.{told}

-- What is read of each file of a command, nothing where it is not there; and the content in which the files of a bundle
-- that is read stand, where it is known.
pub record Inputs : Type 0 where
  pub file : CommandFile → Option (List ℕ)
  pub content : Option Files

-- the texts of the network that is generated for so many hosts
unfoldable pub generated_design : List ℕ
generated_design = design_text

unfoldable pub generated_definitions : (hosts : ℕ) → List ℕ
generated_definitions hosts = definitions_text hosts

-- they are read in the place of files
abbrev pub generated_text : (hosts : ℕ) → CommandFile → Option (List ℕ)
generated_text hosts Design = Some generated_design
generated_text hosts Definitions = Some (generated_definitions hosts)
generated_text hosts file = None

abbrev pub generated : (hosts : ℕ) → Inputs
generated hosts = record { file = generated_text hosts; content = None }

pub data Step : Type 0 where
  -- the file is there
  is_there : (file : CommandFile) → Step
  -- it has at most so many bytes
  is_within : (file : CommandFile) (most : ℕ) → Step
  -- the design reads as a tree, keeps the rules, and is within the limits
  design_reads design_well_formed design_within : Step
  -- the definitions read as a tree, fit the design, and are within the limit on rows
  definitions_read definitions_fit definitions_within : Step
  -- the definitions meet the assumptions of all levels, each decided by a search of so many conflicts
  assumptions_met : (conflicts : ℕ) → Step
  -- no tree of the design has too many leaves
  trees_within : Step
  -- each block of the design keeps what it owes, decided for each obligation in so many rounds, by searches of so many conflicts
  obligations_hold : (conflicts rounds : ℕ) → Step
  -- the file of certificates of the bundle OUT is there, and of its form
  certificates_read : (out : List ℕ) → Step
  -- there are as many of them as the design has obligations
  certificates_counted : (out : List ℕ) → Step
  -- each shows its own
  certificates_accepted : (out : List ℕ) → Step
  -- the file of the network of OUT gives wires
  wires_read : (out : List ℕ) → Step
  -- the network is within the limits
  lowering_within : Step
  -- its wires are those of OUT
  wires_same : (out : List ℕ) → Step
  -- the level is one of the design
  level_there : (level : ℕ) → Step
  -- the lines of the case are of their forms, at this level
  lines_formed : (level : ℕ) → Step
  -- the files of the bundle OUT give a network
  bundle_reads : (out : List ℕ) → Step
  -- each line of the packets file is of its form, has no more bytes than it may, and a host of the network
  packets_judged : (out : List ℕ) → Step
  -- the copies of each packet make no more runs than they may, within so many visits
  copies_within : (out : List ℕ) (hops : ℕ) → Step
  -- the files of the switches have at most the bytes that they may have
  switch_files_within : Step
  -- so do the certificates that the searches found
  certificates_within : Step
  -- and the file of the network
  network_file_within : Step
  -- the files of the bundle are written
  bundle_written : Step
  -- the copies of each of so many packets that are sent to so many hosts make no more runs than they may
  sent_within : (hosts packets : ℕ) → Step
  -- the same step, of the texts that are generated for so many hosts
  of_generated : (hosts : ℕ) (step : Step) → Step

-- ---- what the files say

-- the file is there, and this holds of its text
pub record OfText (inputs : Inputs) (file : CommandFile) (Holds : List ℕ → Type 0) : Type 0 where
  pub text : List ℕ
  pub is : inputs.file file ≡ Some text
  pub holds : Holds text

-- the design reads as a tree, and this holds of its text and its tree
pub record OfDesign (inputs : Inputs) (Holds : List ℕ → tree.Design → Type 0) : Type 0 where
  pub text : List ℕ
  pub is : inputs.file Design ≡ Some text
  pub design : tree.Design
  pub reads : Reads text design
  pub holds : Holds text design

-- the same of the definitions
pub record OfDefinitions (inputs : Inputs) (Holds : List ℕ → tree.DefsText → Type 0) : Type 0 where
  pub text : List ℕ
  pub are : inputs.file Definitions ≡ Some text
  pub defs : tree.DefsText
  pub read : ReadsDefs text defs
  pub holds : Holds text defs

-- both do, and this holds of both trees
abbrev pub OfBoth : Inputs → (tree.Design → tree.DefsText → Type 0) → Type 0
OfBoth inputs Holds =
    OfDesign inputs (λ _ design. OfDefinitions inputs (λ _ defs. Holds design defs))

-- this holds of the design and its text, and of the network that the compiler makes of both
abbrev pub OfNetwork : Inputs → (List ℕ → tree.Design → NetData → Type 0) → Type 0
OfNetwork inputs Holds =
    OfDesign inputs (λ text design. OfDefinitions inputs (λ _ defs.
    (net : NetData) × Lowers design defs net × Holds text design net))

-- this holds of a file of certificates that show what the design owes
abbrev pub OfCertificates : Inputs → (List ℕ → Type 0) → Type 0
OfCertificates inputs Holds =
    OfDesign inputs (λ _ design. (certificates : List ℕ) × Certifies design certificates
    × Holds certificates)

-- this holds of the files of the bundle of that network, with such certificates
abbrev pub OfFiles : Inputs → (List MadeFile → Type 0) → Type 0
OfFiles inputs Holds =
    OfNetwork inputs (λ text design net. (certificates : List ℕ) × Certifies design certificates
    × Holds (bundle text net (Some certificates)))

-- this holds of the files that an `update` writes: those of that network, without certificates
abbrev pub OfUpdatedFiles : Inputs → (List MadeFile → Type 0) → Type 0
OfUpdatedFiles inputs Holds = OfNetwork inputs (λ text _ net. Holds (bundle text net None))

-- this holds of the certificates that stand under a name
pub record OfStandingCertificates (inputs : Inputs) (out : List ℕ)
    (Holds : List Certificate → Type 0) : Type 0 where
  pub certs : List Certificate
  pub given : GivesCertificates inputs.content out certs
  pub holds : Holds certs

-- this holds of the wires that stand under a name
pub record OfStandingWires (inputs : Inputs) (out : List ℕ) (Holds : NetData → Type 0) : Type 0 where
  pub wires : NetData
  pub given : GivesWires inputs.content out wires
  pub holds : Holds wires

-- this holds of a design and of the certificates that stand under a name
abbrev pub OfCertified : Inputs → (out : List ℕ) → (tree.Design → List Certificate → Type 0) → Type 0
OfCertified inputs out Holds =
    OfDesign inputs (λ _ design. OfStandingCertificates inputs out (λ certs. Holds design certs))

-- this holds of the wires that stand under a name, and of the network that the compiler makes
abbrev pub OfBothWires : Inputs → (out : List ℕ) → (NetData → NetData → Type 0) → Type 0
OfBothWires inputs out Holds =
    OfNetwork inputs (λ _ _ net. OfStandingWires inputs out (λ wires. Holds wires net))

-- the files of a bundle give a network of which this holds
pub record OfBundle (inputs : Inputs) (out : List ℕ) (Holds : NetData → Type 0) : Type 0 where
  pub net : NetData
  pub reads : ContentReads inputs.content out net
  pub holds : Holds net

-- this holds of the packets of a file, for the hosts of that network
abbrev pub OfPackets : Inputs → (out : List ℕ) → (NetData → List Packet → Type 0) → Type 0
OfPackets inputs out Holds =
    OfBundle inputs out (λ net. OfText inputs Packets (λ text.
    (packets : List Packet) × (packets_in (host_numbers net.hosts) text ≡ Ok packets)
    × Holds net packets))

-- ---- one step

-- there is nothing to refuse
abbrev pub IsGood : Inputs → Step → Type 0
IsGood inputs (is_there file) = OfText inputs file (λ _. Unit {0})
IsGood inputs (is_within file most) = OfText inputs file (λ text. length text ≤ most)
IsGood inputs design_reads = OfDesign inputs (λ _ _. Unit {0})
IsGood inputs design_well_formed = OfDesign inputs (λ _ design. WellFormed design)
IsGood inputs design_within = OfDesign inputs (λ _ design. WithinLimits design)
IsGood inputs definitions_read = OfDefinitions inputs (λ _ _. Unit {0})
IsGood inputs definitions_fit = OfBoth inputs DefsFit
IsGood inputs definitions_within = OfDefinitions inputs (λ _ defs. row_count defs ≤ most_rows)
IsGood inputs (assumptions_met conflicts) =
    OfBoth inputs (λ design defs. Meets (last_level design) design (defs_of design defs))
IsGood inputs trees_within = OfDesign inputs (λ _ design. AreFew (all_counts design))
IsGood inputs (obligations_hold conflicts rounds) = OfDesign inputs (λ _ design. Refines design)
IsGood inputs (certificates_read out) = OfStandingCertificates inputs out (λ _. Unit {0})
IsGood inputs (certificates_counted out) =
    OfCertified inputs out (λ design certs. length certs ≡ length (all_obligations design))
IsGood inputs (certificates_accepted out) =
    OfCertified inputs out (λ design certs.
    AllZip (IsAccepted design) (all_obligations design) certs × Refines design)
IsGood inputs (wires_read out) = OfStandingWires inputs out (λ _. Unit {0})
IsGood inputs (wires_same out) = OfBothWires inputs out (λ old new. SameWires old new)
IsGood inputs lowering_within =
    OfBoth inputs (λ design defs.
    (net : NetData) × Lowers design defs net × IsWithin design defs)
IsGood inputs (level_there level) = OfDesign inputs (λ _ design. level ≤ last_level design)
IsGood inputs (lines_formed level) =
    OfDesign inputs (λ _ design. OfText inputs Case (λ text.
    (case : cases.Case) × (case_of level design text ≡ Ok case)))
IsGood inputs (bundle_reads out) = OfBundle inputs out (λ _. Unit {0})
IsGood inputs (packets_judged out) = OfPackets inputs out (λ _ _. Unit {0})
IsGood inputs (copies_within out hops) =
    OfPackets inputs out (λ net packets. AllWithin net hops packets)
IsGood inputs switch_files_within =
    OfNetwork inputs (λ _ _ net. AllFit (all_switch_files net.switches))
IsGood inputs certificates_within =
    OfCertificates inputs (λ certificates. length certificates ≤ most_of files.Certificates)
IsGood inputs network_file_within =
    OfNetwork inputs (λ text _ net. length (net_text text net) ≤ most_of files.Network)
IsGood inputs bundle_written = Unit {0}
IsGood inputs (sent_within hosts packets) =
    OfNetwork inputs (λ _ _ net. sent.AllWithin net hosts packets)
IsGood inputs (of_generated hosts s) = IsGood (generated hosts) s

-- what is refused of packets that are not all well
abbrev pub packets_refusal : PacketFault → Option Refusal
packets_refusal (packets.Form line) = Some (refusal.Line Packets line)
packets_refusal (packets.TooLong count) = Some (refusal.OverLimit PacketLimit count)
packets_refusal (packets.NoSuchHost line) = Some (refusal.NoHost Packets line)
packets_refusal packets.NoMemory = None

-- what is refused of a file of the bundle that would have more bytes than it may
abbrev pub is_long : BundleFile → Refusal
is_long file = refusal.TooLong (Bundle file) (most_of file)

-- the step refuses, with this
abbrev pub Refuses : Inputs → Step → Refusal → Type 0
Refuses inputs (is_there file) r = (inputs.file file ≡ None) × (r ≡ refusal.NoFile file)
Refuses inputs (is_within file most) r =
    OfText inputs file (λ text. (most < length text) × (r ≡ refusal.TooLong file most))
Refuses inputs design_reads r =
    OfText inputs Design (λ text. (fault : TextFault) × FirstFault BeginsDesign text fault
    × (r ≡ refusal.Language (NoTree fault)))
Refuses inputs design_well_formed r =
    OfDesign inputs (λ text design. (rule : TypeRule) × (token : ℕ)
    × rules.FirstFault design (fault_at rule token)
    × (r ≡ refusal.Language (Rule rule (token_position text token))))
Refuses inputs design_within r =
    OfDesign inputs (λ _ design. (limit : LimitName) × (count : ℕ)
    × IsFirstOver design (Some (limit, count)) × (r ≡ refusal.OverLimit limit count))
Refuses inputs definitions_read r =
    OfText inputs Definitions (λ text. (fault : TextFault) × FirstFault BeginsDefs text fault
    × (r ≡ refusal.Definitions (definitions.NoTree fault)))
Refuses inputs definitions_fit r =
    OfDesign inputs (λ _ design. OfDefinitions inputs (λ text defs. (fault : DefsFault)
    × (first_of (defs_faults design defs) ≡ Some fault)
    × (r ≡ refusal.Definitions (told text fault))))
Refuses inputs definitions_within r =
    OfDefinitions inputs (λ _ defs.
    (most_rows < row_count defs) × (r ≡ refusal.OverLimit Rows (row_count defs)))
Refuses inputs (assumptions_met conflicts) r =
    OfBoth inputs (λ design defs. (number : ℕ) × (values : List ℕ)
    × IsBroken design (defs_of design defs) number values × (r ≡ refusal.Broken number values))
Refuses inputs trees_within r =
    OfDesign inputs (λ _ design. (count : ℕ)
    × (first_above most_leaves (all_counts design) ≡ Some count)
    × (r ≡ refusal.OverLimit Leaves (reported count)))
Refuses inputs (obligations_hold conflicts rounds) r = ⊥
Refuses inputs (certificates_read out) r =
    (fault : ReadFault) × LacksCertificates inputs.content out fault × (r ≡ unread_as fault)
    × IsOfFiles r
Refuses inputs (certificates_counted out) r =
    OfCertified inputs out (λ design certs. (found : ℕ) × (wanted : ℕ)
    × AreNotAsMany design certs found wanted
    × (r ≡ refusal.Unread files.Certificates (cause.Count found wanted)))
Refuses inputs (certificates_accepted out) r =
    OfCertified inputs out (λ design certs. NotAccepted design certs r)
Refuses inputs (wires_read out) r =
    (fault : ReadFault) × LacksWires inputs.content out fault × (r ≡ unread_as fault)
    × IsOfFiles r
Refuses inputs (wires_same out) r =
    OfBothWires inputs out (λ old new. (difference : Wiring) × FirstOfWires old new difference
    × (r ≡ refusal.Unread files.Network (cause.Wiring difference)))
Refuses inputs lowering_within r =
    OfBoth inputs (λ design defs. (limit : LimitName) × (count : ℕ)
    × IsOver design defs limit count × (r ≡ refusal.OverLimit limit count))
Refuses inputs (level_there level) r =
    OfDesign inputs (λ _ design.
    (last_level design < level) × (r ≡ refusal.NoLevel level (last_level design)))
Refuses inputs (lines_formed level) r =
    OfDesign inputs (λ _ design. OfText inputs Case (λ text. (line : ℕ)
    × (case_of level design text ≡ Err line) × (r ≡ refusal.Line Case line)))
Refuses inputs (bundle_reads out) r =
    (fault : ReadFault) × ContentFault inputs.content out fault × (r ≡ unread_as fault)
    × IsOfFiles r
Refuses inputs (packets_judged out) r =
    OfBundle inputs out (λ net. OfText inputs Packets (λ text. (fault : PacketFault)
    × (packets_in (host_numbers net.hosts) text ≡ Err fault) × (packets_refusal fault ≡ Some r)))
Refuses inputs (copies_within out hops) r =
    OfPackets inputs out (λ net packets.
    SomeOver net hops packets × (r ≡ refusal.OverLimit Copies (suc most_runs)))
Refuses inputs switch_files_within r =
    OfNetwork inputs (λ _ _ net. (file : BundleFile) × FirstOver (all_switch_files net.switches) file
    × (r ≡ is_long file))
Refuses inputs certificates_within r = ⊥
Refuses inputs network_file_within r =
    OfNetwork inputs (λ text _ net.
    (most_of files.Network < length (net_text text net)) × (r ≡ is_long files.Network))
Refuses inputs bundle_written r = ⊥
Refuses inputs (sent_within hosts packets) r =
    OfNetwork inputs (λ _ _ net.
    sent.SomeOver net hosts packets × (r ≡ refusal.OverLimit Copies (suc most_runs)))
Refuses inputs (of_generated hosts s) r = Refuses (generated hosts) s r

-- ---- how a step may end a command

-- A verdict of the step: the command reports it and goes on no further. It is no success, and no
-- refusal.
abbrev pub Judges : Inputs → Step → Report → Type 0
Judges inputs (obligations_hold conflicts rounds) report =
    OfDesign inputs (λ _ design. (number : ℕ) × IsFailing design number report)
Judges inputs (of_generated hosts s) report = Judges (generated hosts) s report
Judges inputs s report = ⊥

-- the step decides the outcome: it refuses, or gives a verdict
abbrev pub Decides : Inputs → Step → Result Report Refusal → Type 0
Decides inputs s (Ok report) = Judges inputs s report
Decides inputs s (Err r) = Refuses inputs s r

-- Whether the step is decided by a search, or by what searches found. Such a step may be good, end the
-- command in several ways that are alike, or be given up.
abbrev pub is_searched : Step → Bool
is_searched (assumptions_met conflicts) = true
is_searched (obligations_hold conflicts rounds) = true
is_searched certificates_within = true
is_searched (of_generated hosts s) = is_searched s
is_searched s = false

-- a search spent what it may spend: this is reported, and these are the bytes of the file of that
abbrev pub Spends : Inputs → Step → Report → (bytes : List ℕ) → Type 0
Spends inputs (assumptions_met conflicts) report bytes =
    OfBoth inputs (λ design defs. (number : ℕ) × IsSpent design defs conflicts number bytes
    × (report ≡ given_up (budget_line conflicts (codes "assumption") number)))
Spends inputs (obligations_hold conflicts rounds) report bytes =
    OfDesign inputs (λ _ design. IsGivenUpOn design conflicts rounds report bytes)
Spends inputs (of_generated hosts s) report bytes = Spends (generated hosts) s report bytes
Spends inputs s report bytes = ⊥

-- a query is too large to be searched, or what was found is too large to be written
abbrev pub IsTooLarge : Inputs → Step → Refusal → Type 0
IsTooLarge inputs (assumptions_met conflicts) r =
    OfBoth inputs (λ design defs. (number : ℕ) × (count : ℕ) × IsBig design defs number count
    × (r ≡ refusal.OverLimit Clauses count))
IsTooLarge inputs (obligations_hold conflicts rounds) r =
    OfDesign inputs (λ _ design. (number : ℕ) × (count : ℕ)
    × owing.IsBig design rounds number count × (r ≡ refusal.OverLimit Clauses count))
IsTooLarge inputs certificates_within r =
    OfCertificates inputs (λ certificates.
    (most_of files.Certificates < length certificates) × (r ≡ is_long files.Certificates))
IsTooLarge inputs (of_generated hosts s) r = IsTooLarge (generated hosts) s r
IsTooLarge inputs s r = ⊥

-- a search is given up
abbrev pub GivesUp : Inputs → Step → Result Report Refusal → Type 0
GivesUp inputs s (Ok report) = (bytes : List ℕ) × Spends inputs s report bytes
GivesUp inputs s (Err r) = IsTooLarge inputs s r

-- a fault of the folder stops the step
abbrev pub Stops : Inputs → Step → Refusal → Type 0
Stops inputs (is_there file) r = r ≡ refusal.ReadFault file
Stops inputs (bundle_reads out) r = (file : BundleFile) × (r ≡ refusal.ReadFault (Bundle file))
Stops inputs (assumptions_met conflicts) r =
    (r ≡ refusal.WriteFault Budget)
    × ((report : Report) × (bytes : List ℕ) × Spends inputs (assumptions_met conflicts) report bytes)
Stops inputs (obligations_hold conflicts rounds) r =
    (r ≡ refusal.WriteFault Budget)
    × ((report : Report) × (bytes : List ℕ)
    × Spends inputs (obligations_hold conflicts rounds) report bytes)
Stops inputs (certificates_read out) r = r ≡ refusal.ReadFault (Bundle files.Certificates)
Stops inputs (wires_read out) r = r ≡ refusal.ReadFault (Bundle files.Network)
Stops inputs bundle_written r = (file : BundleFile) × (r ≡ refusal.WriteFault (Bundle file))
Stops inputs (of_generated hosts s) r = Stops (generated hosts) s r
Stops inputs s r = ⊥
