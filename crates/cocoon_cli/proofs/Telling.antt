-- Each outcome of a command has a line: a refusal is about a file that the command has.
use Rattle.std.proofs.Common.{◌≡◌, List, [], ◌∷◌, ℕ, Option, Some, Err, refl, sym, ap, subst, option_map, inl, inr}
use Rattle.bundle_reader.specs.declared.fault.ReadFault.{ReadFault}
use Rattle.bundle_reader.specs.declared.fault.ReadFault.TheVariants as read
use Rattle.cocoon_io.specs.declared.folder.FolderFault.TheVariants.{Failed, TooLong, NoMemory as Wanting}
use Rattle.cnf_core.specs.declared.certificates.Cert.{Cert}
use Rattle.cocoon_num.specs.Tree as tree
use Rattle.cocoon_num.specs.declared.limit_name.LimitName.TheVariants.{Packet as PacketLimit}
use Rattle.net_bundle.specs.declared.file.BundleFile.{BundleFile}
use Rattle.net_bundle.specs.declared.file.BundleFile.TheVariants as files
use Rattle.packet_runs.specs.declared.packet.PacketFault.{PacketFault}
use Rattle.packet_runs.specs.declared.packet.PacketFault.TheVariants as packets
use Rattle.command_reports.specs.FileNames.{FileNames, name_of}
use Rattle.command_reports.specs.Refusals.{unread_as}
use Rattle.command_reports.specs.Report.{no_memory_line, refusal_line}
use Rattle.command_reports.specs.declared.files.CommandFile.{CommandFile}
use Rattle.command_reports.specs.declared.files.CommandFile.TheVariants.{Design, Definitions, Bundle, Case, Packets, Budget}
use Rattle.command_reports.specs.declared.refusal.BundleCause.TheVariants as cause
use Rattle.command_reports.specs.declared.refusal.Refusal.{Refusal}
use Rattle.command_reports.specs.declared.refusal.Refusal.TheVariants as refusal
use Rattle.command_answers.specs.Outcomes.{Ends, no_memory, at_step, at_fault, EndsAt, FirstWith, here, later, StopsAt}
use Rattle.command_answers.specs.Standing.{NotAccepted}
use Rattle.command_answers.specs.Steps.{Inputs, generated, of_generated, sent_within, IsTooLarge, Refuses, Step, Stops, assumptions_met, bundle_reads, bundle_written, certificates_accepted, certificates_counted, certificates_read, certificates_within, copies_within, definitions_fit, definitions_read, definitions_within, design_reads, design_well_formed, design_within, is_there, is_within, level_there, lines_formed, lowering_within, network_file_within, obligations_hold, packets_judged, packets_refusal, switch_files_within, trees_within, wires_read, wires_same}

-- there is a file of this kind
abbrev pub Named : FileNames → CommandFile → Type 0
Named names file = (name : List ℕ) × (name_of names file ≡ Some name)

-- there are the files that the refusals of a step are about
abbrev pub Tells : FileNames → Step → Type 0
Tells names (is_there file) = Named names file
Tells names (is_within file most) = Named names file
Tells names design_reads = Named names Design
Tells names design_well_formed = Named names Design
Tells names definitions_read = Named names Definitions
Tells names definitions_fit = Named names Definitions
Tells names (assumptions_met conflicts) = Named names Budget
Tells names (obligations_hold conflicts rounds) = Named names Budget
Tells names (lines_formed level) = Named names Case
Tells names (packets_judged out) = Named names Packets
Tells names (bundle_reads out) = (file : BundleFile) → Named names (Bundle file)
Tells names (certificates_read out) = (file : BundleFile) → Named names (Bundle file)
Tells names (certificates_counted out) = (file : BundleFile) → Named names (Bundle file)
Tells names (certificates_accepted out) = (file : BundleFile) → Named names (Bundle file)
Tells names (wires_read out) = (file : BundleFile) → Named names (Bundle file)
Tells names (wires_same out) = (file : BundleFile) → Named names (Bundle file)
Tells names switch_files_within = (file : BundleFile) → Named names (Bundle file)
Tells names certificates_within = (file : BundleFile) → Named names (Bundle file)
Tells names network_file_within = (file : BundleFile) → Named names (Bundle file)
Tells names bundle_written = (file : BundleFile) → Named names (Bundle file)
Tells names (of_generated hosts s) = Tells names s
Tells names s = Unit {0}

abbrev pub AllTell : FileNames → List Step → Type 0
AllTell names [] = Unit {0}
AllTell names (s ∷ ss) = Tells names s × AllTell names ss

abbrev pub HasLine : FileNames → Refusal → Type 0
HasLine names r = (line : List ℕ) × (refusal_line names r ≡ Some line)

with_name : (f : List ℕ → List ℕ) (o : Option (List ℕ)) → (name : List ℕ) × (o ≡ Some name) → (line : List ℕ) × (option_map f o ≡ Some line)
with_name f o (name, e) = (f name, ap (option_map f) e)

same_has : (names : FileNames) (r q : Refusal) → r ≡ q → HasLine names q → HasLine names r
same_has names r q e h = subst (HasLine names) (sym e) h

unread_has : (names : FileNames) (fault : ReadFault) → ((file : BundleFile) → Named names (Bundle file)) → HasLine names (unread_as fault)
unread_has names (read.Missing file) n = with_name _ _ (n file)
unread_has names (read.Folder file Failed) n = with_name _ _ (n file)
unread_has names (read.Folder file (TooLong most)) n = with_name _ _ (n file)
unread_has names (read.Folder file Wanting) n = (no_memory_line, refl)
unread_has names (read.Stale file found kept) n = with_name _ _ (n file)
unread_has names (read.NotJson file) n = with_name _ _ (n file)
unread_has names (read.P4 file fault) n = with_name _ _ (n file)
unread_has names (read.Shape file pointer) n = with_name _ _ (n file)
unread_has names (read.Load file fault) n = with_name _ _ (n file)
unread_has names read.NoMemory n = (no_memory_line, refl)

packets_has : (names : FileNames) (fault : PacketFault) (r : Refusal) → packets_refusal fault ≡ Some r → Named names Packets → HasLine names r
packets_has names (packets.Form line) r e n = same_has names r (refusal.Line Packets line) (cc) (with_name _ _ n)
packets_has names (packets.TooLong count) r e n = same_has names r (refusal.OverLimit PacketLimit count) (cc) (_, refl)
packets_has names (packets.NoSuchHost line) r e n = same_has names r (refusal.NoHost Packets line) (cc) (with_name _ _ n)
packets_has names packets.NoMemory r e n = cc

unaccepted_has : (names : FileNames) (d : tree.Design) (certs : List Cert) (r : Refusal) → ((file : BundleFile) → Named names (Bundle file)) → NotAccepted d certs r → HasLine names r
unaccepted_has names d certs (refusal.Unread file (cause.Refused number)) n h = with_name _ _ (n file)
unaccepted_has names d certs (refusal.OverLimit limit count) n h = (_, refl)
unaccepted_has names d certs r n h = absurd h

refused_has : (names : FileNames) (i : Inputs) (s : Step) (r : Refusal) → Tells names s → Refuses i s r → HasLine names r
refused_has names i (is_there file) r n h = same_has names r _ h.1 (with_name _ _ n)
refused_has names i (is_within file most) r n h = same_has names r _ h.holds.1 (with_name _ _ n)
refused_has names i design_reads r n h = same_has names r _ h.holds.2 (with_name _ _ n)
refused_has names i design_well_formed r n h = same_has names r _ h.holds.3 (with_name _ _ n)
refused_has names i design_within r n h = same_has names r _ h.holds.3 (_, refl)
refused_has names i definitions_read r n h = same_has names r _ h.holds.2 (with_name _ _ n)
refused_has names i definitions_fit r n h = same_has names r _ h.holds.holds.2 (with_name _ _ n)
refused_has names i definitions_within r n h = same_has names r _ h.holds.1 (_, refl)
refused_has names i (assumptions_met conflicts) r n h = same_has names r _ h.holds.holds.3 (_, refl)
refused_has names i trees_within r n h = same_has names r _ h.holds.2 (_, refl)
refused_has names i (obligations_hold conflicts rounds) r n h = absurd h
refused_has names i (certificates_read out) r n h = same_has names r _ h.2 (unread_has names h.0 n)
refused_has names i (certificates_counted out) r n h = same_has names r _ h.holds.holds.3 (with_name _ _ (n files.Certificates))
refused_has names i (certificates_accepted out) r n h = unaccepted_has names h.design h.holds.certs r n h.holds.holds
refused_has names i (wires_read out) r n h = same_has names r _ h.2 (unread_has names h.0 n)
refused_has names i (wires_same out) r n h =
    let (net, lowers, standing) = h.holds.holds in
    let (difference, first, e) = standing.holds in
    same_has names r _ e (with_name _ _ (n files.Network))
refused_has names i lowering_within r n h = same_has names r _ h.holds.holds.3 (_, refl)
refused_has names i (level_there level) r n h = same_has names r _ h.holds.1 (_, refl)
refused_has names i (lines_formed level) r n h = same_has names r _ h.holds.holds.2 (with_name _ _ n)
refused_has names i (bundle_reads out) r n h = same_has names r _ h.2 (unread_has names h.0 n)
refused_has names i (packets_judged out) r n h = packets_has names h.holds.holds.0 r h.holds.holds.2 n
refused_has names i (copies_within out hops) r n h =
    let (ps, say, (over, e)) = h.holds.holds in same_has names r _ e (_, refl)
refused_has names i switch_files_within r n h =
    let (net, lowers, (file, over, e)) = h.holds.holds in same_has names r _ e (with_name _ _ (n file))
refused_has names i certificates_within r n h = absurd h
refused_has names i network_file_within r n h = same_has names r _ h.holds.holds.2.1 (with_name _ _ (n files.Network))
refused_has names i bundle_written r n h = absurd h
refused_has names i (sent_within hosts packets) r n h = same_has names r _ h.holds.holds.2.1 (_, refl)
refused_has names i (of_generated hosts s) r n h = refused_has names (generated hosts) s r n h

stopped_has : (names : FileNames) (i : Inputs) (s : Step) (r : Refusal) → Tells names s → Stops i s r → HasLine names r
stopped_has names i (is_there file) r n h = same_has names r _ h (with_name _ _ n)
stopped_has names i (bundle_reads out) r n (file, h) = same_has names r _ h (with_name _ _ (n file))
stopped_has names i (assumptions_met conflicts) r n h = same_has names r _ h.0 (with_name _ _ n)
stopped_has names i (obligations_hold conflicts rounds) r n h = same_has names r _ h.0 (with_name _ _ n)
stopped_has names i (certificates_read out) r n h = same_has names r _ h (with_name _ _ (n files.Certificates))
stopped_has names i (wires_read out) r n h = same_has names r _ h (with_name _ _ (n files.Network))
stopped_has names i bundle_written r n (file, h) = same_has names r _ h (with_name _ _ (n file))
stopped_has names i (of_generated hosts s) r n h = stopped_has names (generated hosts) s r n h
stopped_has names i s r n h = absurd h

large_has : (names : FileNames) (i : Inputs) (s : Step) (r : Refusal) → Tells names s → IsTooLarge i s r → HasLine names r
large_has names i (assumptions_met conflicts) r n h = same_has names r _ h.holds.holds.3 (_, refl)
large_has names i (obligations_hold conflicts rounds) r n h = same_has names r _ h.holds.3 (_, refl)
large_has names i certificates_within r n h = same_has names r _ h.holds.2.1 (with_name _ _ (n files.Certificates))
large_has names i (of_generated hosts s) r n h = large_has names (generated hosts) s r n h
large_has names i s r n h = absurd h

first_has : (names : FileNames) (i : Inputs) (r : Refusal) (ss : List Step) → AllTell names ss → FirstWith i (EndsAt i (Err r)) ss → HasLine names r
first_has names i r [] t h = elim h [ ]
first_has names i r (s ∷ ss) t (here (inl h)) = refused_has names i s r t.0 h
first_has names i r (s ∷ ss) t (here (inr h)) = large_has names i s r t.0 h
first_has names i r (s ∷ ss) t (later g h) = first_has names i r ss t.1 h

fault_has : (names : FileNames) (i : Inputs) (r : Refusal) (ss : List Step) → AllTell names ss → FirstWith i (StopsAt i (Err r)) ss → HasLine names r
fault_has names i r [] t h = elim h [ ]
fault_has names i r (s ∷ ss) t (here h) = stopped_has names i s r t.0 h
fault_has names i r (s ∷ ss) t (later g h) = fault_has names i r ss t.1 h

pub ends_has : (names : FileNames) (i : Inputs) (r : Refusal) (ss : List Step) → AllTell names ss → Ends i (Err r) ss → HasLine names r
ends_has names i r ss t (no_memory e) = same_has names r refusal.NoMemory (cc) (no_memory_line, refl)
ends_has names i r ss t (at_step h) = first_has names i r ss t h
ends_has names i r ss t (at_fault h) = fault_has names i r ss t h
