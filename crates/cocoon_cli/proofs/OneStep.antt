-- By what is read of the files, a step is good, or it refuses in one way.
use Rattle.std.proofs.Common.{◌≡◌, ◌⊎◌, ◌≤◌, ◌<◌, ℕ, zero, suc, true, false, All, refl, List, [], ◌∷◌, ◌++◌, length, take, Option, Some, None, Result, Ok, Err, sym, ap, ap₂, subst, ◌∙◌, inl, inr, arith}
use Rattle.std.specs.Prelude.{slice_get}
use Rattle.std.proofs.lemmas.List.Elements.{All-head, All-tail}
use Rattle.cocoon_num.specs.Lists.{first_of}
use Rattle.cocoon_num.specs.Tree as tree
use Rattle.cocoon_num.specs.declared.limit_name.LimitName.{LimitName}
use Rattle.cocoon_num.specs.declared.limit_name.LimitName.TheVariants.{Leaves}
use Rattle.cocoon_num.specs.Reads.{Reads, ReadsDefs}
use Rattle.cocoon_num.specs.FirstFaults.{BeginsDesign, BeginsDefs}
use Rattle.cocoon_text.specs.Positions.{token_position}
use Rattle.cocoon_text.specs.TextFaults.{FirstFault}
use Rattle.cocoon_text.specs.declared.fault.TextFault.{TextFault}
use Rattle.cocoon_types.specs.DefsRules.{DefsFault, defs_faults}
use Rattle.cocoon_types.specs.FirstFault as rules
use Rattle.cocoon_types.specs.Limits.{WithinLimits, FirstOver as LimitOver, first_above, reported}
use Rattle.cocoon_types.specs.RuleNames.{fault_at}
use Rattle.cocoon_types.specs.Rules.{WellFormed}
use Rattle.cocoon_types.specs.declared.fault.TypeRule.{TypeRule}
use Rattle.cocoon_io.specs.Files.{Files}
use Rattle.p4_ir.specs.NetTree.{NetData}
use Rattle.p4_ir.specs.Wiring.{host_numbers}
use Rattle.bundle_reader.specs.Alone.{OneWiring}
use Rattle.bundle_reader.specs.OneReading as reading
use Rattle.bundle_reader.specs.OneReading.{OneReading}
use Rattle.bundle_reader.specs.Readings.{ContentFault, ContentReads}
use Rattle.bundle_reader.specs.declared.fault.ReadFault.{ReadFault}
use Rattle.bundle_reader.specs.declared.fault.ReadFault.TheVariants as read
use Rattle.cocoon_io.specs.declared.folder.FolderFault.TheVariants.{Failed, NoMemory as Wanting}
use Rattle.cnf_core.specs.declared.certificates.Cert.{Cert}
use Rattle.generator.specs.Stopping as sent
use Rattle.net_run.specs.RunCounts.{most_runs, runs}
use Rattle.net_wiring.specs.Differences.{FirstDifference}
use Rattle.net_wiring.specs.declared.wiring.Wiring.{Wiring}
use Rattle.packet_runs.specs.Packets.{Packet, packets_in}
use Rattle.packet_runs.specs.declared.packet.PacketFault.{PacketFault}
use Rattle.packet_runs.specs.Reports.{IsReport}
use Rattle.packet_runs.specs.Stopping.{AllWithin, SomeOver}
use Rattle.net_bundle.specs.Bundle.{MadeFile, all_switch_files, net_text}
use Rattle.net_bundle.specs.Writing.{AllFit, FirstOver, most_of}
use Rattle.net_bundle.specs.declared.file.BundleFile.{BundleFile}
use Rattle.net_bundle.specs.declared.file.BundleFile.TheVariants as files
use Rattle.runtime_defs.specs.Bound.{most_rows, row_count}
use Rattle.lower_p4.specs.Lowers.{Lowers}
use Rattle.lower_p4.specs.LowerLimits.{IsOver, IsWithin}
use Rattle.step_cases.specs.Cases.{Case, case_of}
use Rattle.step_cases.specs.Stepping.{Steps}
use Rattle.step_cases.specs.declared.sent.Sent.{Sent}
use Rattle.cocoon_types.specs.Design.{last_level}
use Rattle.cocoon_types.specs.Tables as tables
use Rattle.cocoon_types.specs.Tables.{defs_of}
use Rattle.cocoon_num.specs.Values.{Value, truth}
use Rattle.cocoon_resolve.specs.Readers.{all_assumptions}
use Rattle.obligation_gen.specs.CountedTrees.{most_leaves}
use Rattle.obligation_gen.specs.Counted.{all_counts}
use Rattle.refinement.specs.Assumptions.{IsMet, Meets}
use Rattle.refinement.specs.Owed.{Refines}
use Rattle.failures.specs.Failures.{Failure}
use Rattle.failures.specs.FailureTexts.{first_line, run_lines}
use Rattle.obligation_laws.specs.Failing.{NeverFails}
use Rattle.obligation_laws.specs.Obligations.{Obligation, all_obligations}
use Rattle.verdicts.specs.Failing.{FailsBy}
use Rattle.discharge.specs.Meeting.{IsFalseAt}
use Rattle.command_reports.specs.Refusals.{IsOfFiles, unread_as}
use Rattle.command_reports.specs.declared.files.CommandFile.{CommandFile}
use Rattle.command_reports.specs.declared.files.CommandFile.TheVariants.{Design, Definitions, Case as CaseFile, Packets as PacketsFile}
use Rattle.command_reports.specs.declared.refusal.BundleCause.TheVariants as cause
use Rattle.command_reports.specs.declared.refusal.InputFault.TheVariants.{NoTree, Rule}
use Rattle.command_reports.specs.declared.refusal.DefinitionsFault.TheVariants as definitions
use Rattle.command_reports.specs.declared.refusal.Refusal.{Refusal}
use Rattle.command_reports.specs.declared.refusal.Refusal.TheVariants as refusal
use Rattle.command_reports.specs.declared.report.Report.{Report}
use Rattle.command_reports.specs.declared.report.Verdict.{Verdict}
use Rattle.command_reports.specs.DesignTexts.{told}
use Rattle.command_answers.specs.Steps.{Inputs, OfBundle, OfCertified, OfDefinitions, OfDesign, OfPackets, OfStandingCertificates, OfStandingWires, OfText, Step, is_there, is_within, design_reads, design_well_formed, design_within, definitions_read, definitions_fit, definitions_within, assumptions_met, trees_within, obligations_hold, certificates_read, certificates_counted, certificates_accepted, wires_read, wires_same, lowering_within, level_there, lines_formed, bundle_reads, packets_judged, copies_within, switch_files_within, certificates_within, network_file_within, bundle_written, sent_within, of_generated, generated, is_long, packets_refusal, IsGood, Judges, Refuses}
use Rattle.command_answers.specs.Assumed.{IsBroken}
use Rattle.command_answers.specs.Owing.{IsFailing, TellsFailure, word_of}
use Rattle.command_answers.specs.Outcomes.{Alike, broken, failed, failed_leaf}
use Rattle.cocoon_cli.proofs.OneStanding.{accepted_or_not, of_networks, one_certificates, one_certificates_fault, one_unaccepted, read_or_fault, same_or_differ}
use Rattle.cocoon_cli.proofs.RuleValues.{same_rule}

-- that texts have one tree or one first fault, that a design keeps the rules or breaks one first and so with the limits, that
-- the compiler makes one network of two trees, or is over one limit first, and that the files of a bundle are read in one way
pub record Laws : Type 0 where
  pub one_tree : (text : List ℕ) (x y : tree.Design) → Reads text x → Reads text y → x ≡ y
  pub one_defs_tree : (text : List ℕ) (x y : tree.DefsText) → ReadsDefs text x → ReadsDefs text y → x ≡ y
  pub one_fault : (text : List ℕ) (f g : TextFault) → FirstFault BeginsDesign text f → FirstFault BeginsDesign text g → f ≡ g
  pub one_defs_fault : (text : List ℕ) (f g : TextFault) → FirstFault BeginsDefs text f → FirstFault BeginsDefs text g → f ≡ g
  pub no_fault : (text : List ℕ) (d : tree.Design) (f : TextFault) → Reads text d → ¬ FirstFault BeginsDesign text f
  pub no_defs_fault : (text : List ℕ) (d : tree.DefsText) (f : TextFault) → ReadsDefs text d → ¬ FirstFault BeginsDefs text f
  pub one_rule : (d : tree.Design) (f g : rules.Fault) → rules.FirstFault d f → rules.FirstFault d g → f ≡ g
  pub no_rule : (d : tree.Design) (f : rules.Fault) → WellFormed d → ¬ rules.FirstFault d f
  pub one_limit : (d : tree.Design) (x y : LimitName) (m n : ℕ) → LimitOver d x m → LimitOver d y n → (x ≡ y) × (m ≡ n)
  pub no_limit : (d : tree.Design) (x : LimitName) (n : ℕ) → WithinLimits d → LimitOver d x n → ⊥
  pub one_net : (d : tree.Design) (e : tree.DefsText) (m n : NetData) → Lowers d e m → Lowers d e n → m ≡ n
  pub one_over : (d : tree.Design) (e : tree.DefsText) (x y : LimitName) (m n : ℕ) → IsOver d e x m → IsOver d e y n → (x ≡ y) × (m ≡ n)
  pub one_step : (level : ℕ) (d : tree.Design) (defs : tables.Defs) (case : Case) (told other : Option Sent) → Steps level d defs case told → Steps level d defs case other → other ≡ told
  pub one_reading : (files : Files) (out : List ℕ) → OneReading files out
  pub one_wiring : (files : Files) (out : List ℕ) → OneWiring files out
  pub one_difference : (old new : NetData) (v w : Wiring) → FirstDifference old new v → FirstDifference old new w → v ≡ w
  pub same_report : (net : NetData) (hops : ℕ) (ps : List Packet) (lines other : List ℕ) → IsReport net hops ps lines → IsReport net hops ps other → lines ≡ other
  pub no_over : (d : tree.Design) (e : tree.DefsText) (x : LimitName) (n : ℕ) → IsWithin d e → IsOver d e x n → ⊥
  pub no_failure : (d : tree.Design) (o : Obligation) (f : Failure) → FailsBy d o f → NeverFails d o → ⊥
  pub no_refuted : (d : tree.Design) (o : Obligation) (f : Failure) → FailsBy d o f → Refines d → ⊥

-- ---- what is read

pub same_some : {A : Type 0} (o : Option A) (x y : A) → o ≡ Some x → o ≡ Some y → x ≡ y
same_some {A = A} o x y p q = let e : ◌≡◌ {A = Option A} (Some x) (Some y) = sym p ∙ q in cc

pub same_ok : {A B : Type 0} (r : Result A B) (x y : A) → r ≡ Ok x → r ≡ Ok y → x ≡ y
same_ok {A = A} {B = B} r x y p q = let e : ◌≡◌ {A = Result A B} (Ok x) (Ok y) = sym p ∙ q in cc

same_err : {A B : Type 0} (r : Result A B) (x y : B) → r ≡ Err x → r ≡ Err y → x ≡ y
same_err {A = A} {B = B} r x y p q = let e : ◌≡◌ {A = Result A B} (Err x) (Err y) = sym p ∙ q in cc

ok_or_err : {A B : Type 0} (r : Result A B) (x : A) (y : B) → r ≡ Ok x → r ≡ Err y → ⊥
ok_or_err {A = A} {B = B} r x y p q = let e : ◌≡◌ {A = Result A B} (Ok x) (Err y) = sym p ∙ q in cc

-- Of what two say of the files, each on a reading of its own, follows what follows where the readings are the same.
pub on_text : {P Q : List ℕ → Type 0} {R : Type 0} (i : Inputs) (file : CommandFile) → ((t : List ℕ) → P t → Q t → R) → OfText i file P → OfText i file Q → R
on_text {P = P} i file f h k = f k.text (subst P (same_some (i.file file) h.text k.text h.is k.is) h.holds) k.holds

pub on_design : {P Q : List ℕ → tree.Design → Type 0} {R : Type 0} → Laws → (i : Inputs) → ((t : List ℕ) (d : tree.Design) → P t d → Q t d → R) → OfDesign i P → OfDesign i Q → R
on_design {P = P} laws i f h k =
    let same = same_some (i.file Design) h.text k.text h.is k.is in
    let one = laws.one_tree k.text h.design k.design (subst (λ (t : List ℕ). Reads t h.design) same h.reads) k.reads in
    f k.text k.design (subst (P k.text) one (subst (λ (t : List ℕ). P t h.design) same h.holds)) k.holds

on_defs : {P Q : List ℕ → tree.DefsText → Type 0} {R : Type 0} → Laws → (i : Inputs) → ((t : List ℕ) (e : tree.DefsText) → P t e → Q t e → R) → OfDefinitions i P → OfDefinitions i Q → R
on_defs {P = P} laws i f h k =
    let same = same_some (i.file Definitions) h.text k.text h.are k.are in
    let one = laws.one_defs_tree k.text h.defs k.defs (subst (λ (t : List ℕ). ReadsDefs t h.defs) same h.read) k.read in
    f k.text k.defs (subst (P k.text) one (subst (λ (t : List ℕ). P t h.defs) same h.holds)) k.holds

pub on_both : {P Q : List ℕ → tree.Design → List ℕ → tree.DefsText → Type 0} {R : Type 0} → Laws → (i : Inputs) → ((t : List ℕ) (d : tree.Design) (u : List ℕ) (e : tree.DefsText) → P t d u e → Q t d u e → R)
    → OfDesign i (λ t d. OfDefinitions i (P t d)) → OfDesign i (λ t d. OfDefinitions i (Q t d)) → R
on_both laws i f h k = on_design laws i (λ t d x y. on_defs laws i (f t d) x y) h k

-- the network that is made of both
on_net : {P Q : List ℕ → NetData → Type 0} {R : Type 0} → Laws → (i : Inputs) → ((t : List ℕ) (net : NetData) → P t net → Q t net → R)
    → OfDesign i (λ t d. OfDefinitions i (λ _ e. (n : NetData) × Lowers d e n × P t n)) → OfDesign i (λ t d. OfDefinitions i (λ _ e. (n : NetData) × Lowers d e n × Q t n)) → R
on_net {P = P} laws i f h k = on_both laws i (λ t d u e (m, low, p) (n, lows, q). f t n (subst (P t) (laws.one_net d e m n low lows) p) q) h k

-- a bundle whose content is known has one reading
abbrev pub HasReading : Inputs → (out : List ℕ) → Type 0
HasReading i out = (files : Files) × (i.content ≡ Some files) × OneReading files out

on_bundle : {P Q : NetData → Type 0} {R : Type 0} (i : Inputs) (out : List ℕ) → HasReading i out → ((net : NetData) → P net → Q net → R) → OfBundle i out P → OfBundle i out Q → R
on_bundle {P = P} i out (files, is, one) f h k =
    let same = one.one_network h.net k.net (subst (λ content. ContentReads content out h.net) is h.reads) (subst (λ content. ContentReads content out k.net) is k.reads) in
    f k.net (subst P same h.holds) k.holds

-- so have the certificates and the wires that stand
abbrev pub HasWiring : Inputs → (out : List ℕ) → Type 0
HasWiring i out = (files : Files) × (i.content ≡ Some files) × OneWiring files out

on_certificates : {P Q : List Cert → Type 0} {R : Type 0} (i : Inputs) (out : List ℕ) → HasWiring i out → ((certs : List Cert) → P certs → Q certs → R) → OfStandingCertificates i out P → OfStandingCertificates i out Q → R
on_certificates {P = P} i out (files, is, one) f h k =
    f k.certs (subst P (one_certificates files out h.certs k.certs (h.given files is) (k.given files is)) h.holds) k.holds

pub on_certified : {P Q : tree.Design → List Cert → Type 0} {R : Type 0} → Laws → (i : Inputs) (out : List ℕ) → HasWiring i out → ((d : tree.Design) (certs : List Cert) → P d certs → Q d certs → R) → OfCertified i out P → OfCertified i out Q → R
on_certified laws i out b f h k = on_design laws i (λ _ d u v. on_certificates i out b (f d) u v) h k

on_wires : {P Q : NetData → Type 0} {R : Type 0} (i : Inputs) (out : List ℕ) → HasWiring i out → ((wires : NetData) → P wires → Q wires → R) → OfStandingWires i out P → OfStandingWires i out Q → R
on_wires {P = P} i out (files, is, one) f h k =
    f k.wires (subst P (one.one_wiring h.wires k.wires (h.given files is) (k.given files is)) h.holds) k.holds

abbrev judged_by : NetData → List ℕ → Result (List Packet) PacketFault
judged_by net text = packets_in (host_numbers net.hosts) text

pub on_packets : {P Q : NetData → List Packet → Type 0} {R : Type 0} (i : Inputs) (out : List ℕ) → HasReading i out → ((net : NetData) (ps : List Packet) → P net ps → Q net ps → R) → OfPackets i out P → OfPackets i out Q → R
on_packets {P = P} i out r f h k =
    on_bundle i out r (λ net x y. on_text i PacketsFile (λ t (ps, say, p) (qs, says, q). f net qs (subst (P net) (same_ok (judged_by net t) ps qs say says) p) q) x y) h k

abbrev pub Decided : Inputs → Step → Type 0
Decided i (bundle_reads out) = HasReading i out
Decided i (certificates_read out) = HasWiring i out
Decided i (certificates_counted out) = HasWiring i out
Decided i (certificates_accepted out) = HasWiring i out
Decided i (wires_read out) = HasWiring i out
Decided i (wires_same out) = HasWiring i out
Decided i (packets_judged out) = HasReading i out
Decided i (copies_within out hops) = HasReading i out
Decided i (of_generated hosts s) = Decided (generated hosts) s
Decided i s = Unit {0}

abbrev pub AllDecided : Inputs → List Step → Type 0
AllDecided i [] = Unit {0}
AllDecided i (s ∷ ss) = Decided i s × AllDecided i ss

-- what is told of the files is a fault of them
of_files : (f : ReadFault) → IsOfFiles (unread_as f) → reading.IsOfFiles f
of_files (read.Folder file Failed) h = absurd h
of_files (read.Folder file Wanting) h = absurd h
of_files read.NoMemory h = absurd h
of_files f h = tt

all_or_over : (net : NetData) (hops : ℕ) (ps : List Packet) → AllWithin net hops ps → SomeOver net hops ps → ⊥
all_or_over net hops [] a h = h
all_or_over net hops (p ∷ ps) a (inl h) = let b : runs net p.host p.bytes hops ≤ most_runs = a.0 in let c : most_runs < runs net p.host p.bytes hops = h in omega arith
all_or_over net hops (p ∷ ps) a (inr h) = all_or_over net hops ps a.1 h

none_sent_over : (net : NetData) (hosts packets : ℕ) → sent.AllWithin net hosts packets → sent.SomeOver net hosts packets → ⊥
none_sent_over net hosts packets all (k, few, over) =
    let a : sent.runs_of net hosts k ≤ most_runs = all k few in let b : most_runs < sent.runs_of net hosts k = over in omega arith

-- ---- refusals

rule_at : (t : List ℕ) (x y : TypeRule) (m n : ℕ) → fault_at x m ≡ fault_at y n → refusal.Language (Rule x (token_position t m)) ≡ refusal.Language (Rule y (token_position t n))
rule_at t x y m n e =
    ap₂ (λ (r : TypeRule) (k : ℕ). refusal.Language (Rule r (token_position t k))) (same_rule x y (ap (λ (z : rules.Fault). z.rule) e)) (ap (λ (z : rules.Fault). z.at) e)

over_by : (x y : LimitName) (m n : ℕ) → x ≡ y → m ≡ n → refusal.OverLimit x m ≡ refusal.OverLimit y n
over_by x y m n e f = ap₂ (λ (l : LimitName) (k : ℕ). refusal.OverLimit l k) e f

one_over : (fs : List MadeFile) (f g : BundleFile) → FirstOver fs f → FirstOver fs g → f ≡ g
one_over [] f g h k = absurd h
one_over (x ∷ fs) f g (inl h) (inl k) = sym h.0 ∙ k.0
one_over (x ∷ fs) f g (inl h) (inr k) = let a : most_of x.file < length x.bytes = h.1 in let b : length x.bytes ≤ most_of x.file = k.0 in let no : ⊥ = omega arith in absurd no
one_over (x ∷ fs) f g (inr h) (inl k) = let a : most_of x.file < length x.bytes = k.1 in let b : length x.bytes ≤ most_of x.file = h.0 in let no : ⊥ = omega arith in absurd no
one_over (x ∷ fs) f g (inr h) (inr k) = one_over fs f g h.1 k.1

none_over : (fs : List MadeFile) (f : BundleFile) → AllFit fs → FirstOver fs f → ⊥
none_over [] f a h = h
none_over (x ∷ fs) f a (inl h) = let b : most_of x.file < length x.bytes = h.1 in let c : length x.bytes ≤ most_of x.file = a.0 in omega arith
none_over (x ∷ fs) f a (inr h) = none_over fs f a.1 h.1

-- ---- assumptions

-- each of the first items has what all of them have
of_first : {A : Type 0} (P : A → Type 0) (xs : List A) (m n : ℕ) (x : A) → m < n → slice_get xs m ≡ Some x → All P (take n xs) → P x
of_first P [] m n x h is all = absurd cc
of_first P (y ∷ xs) m zero x h is all = absurd (omega (arith, h))
of_first P (y ∷ xs) zero (suc n) x h is all = let same : y ≡ x = cc in subst P same (All-head P y (take n xs) all)
of_first P (y ∷ xs) (suc m) (suc n) x h is all = of_first P xs m n x (omega (arith, h)) is (All-tail P y (take n xs) all)

of_all : {A : Type 0} (P : A → Type 0) (xs : List A) (m : ℕ) (x : A) → slice_get xs m ≡ Some x → All P xs → P x
of_all P [] m x is all = absurd cc
of_all P (y ∷ xs) zero x is all = let same : y ≡ x = cc in subst P same (All-head P y xs all)
of_all P (y ∷ xs) (suc m) x is all = of_all P xs m x is (All-tail P y xs all)

-- an assumption that is met is false nowhere
never_false : (d : tree.Design) (defs : tables.Defs) (a : tree.AssumeDecl) (ns : List ℕ) → IsMet d defs a → IsFalseAt d defs a ns → ⊥
never_false d defs a ns met h =
    let no : ◌≡◌ {A = Option Value} (Some (truth true)) (Some (truth false)) = sym (met ns h.env h.bound) ∙ h.is_false in
    cc

compared : (m n : ℕ) → (m < n) ⊎ ((m ≡ n) ⊎ (n < m))
compared zero zero = inr (inl refl)
compared zero (suc n) = inl (omega arith)
compared (suc m) zero = inr (inr (omega arith))
compared (suc m) (suc n) = elim (compared m n) [
  | inl less ↦ inl (omega (arith, less))
  | inr (inl same) ↦ inr (inl (ap suc same))
  | inr (inr more) ↦ inr (inr (omega (arith, more)))
]

-- the first assumption that is broken is one
not_earlier : (d : tree.Design) (defs : tables.Defs) (m n : ℕ) (v w : List ℕ) → IsBroken d defs m v → IsBroken d defs n w → m < n → ⊥
not_earlier d defs m n v w h k less =
    never_false d defs h.assumption v (of_first (IsMet d defs) (all_assumptions d) m n h.assumption less h.is k.earlier) h.says

one_broken : (d : tree.Design) (defs : tables.Defs) (m n : ℕ) (v w : List ℕ) → IsBroken d defs m v → IsBroken d defs n w → m ≡ n
one_broken d defs m n v w h k = elim (compared m n) [
  | inl less ↦ absurd (not_earlier d defs m n v w h k less)
  | inr (inl same) ↦ same
  | inr (inr more) ↦ absurd (not_earlier d defs n m w v k h more)
]

none_broken : (d : tree.Design) (defs : tables.Defs) (n : ℕ) (v : List ℕ) → Meets (last_level d) d defs → IsBroken d defs n v → ⊥
none_broken d defs n v met h = never_false d defs h.assumption v (of_all (IsMet d defs) (all_assumptions d) n h.assumption h.is met) h.says

same_number : (r q : Refusal) (m n : ℕ) (v w : List ℕ) → m ≡ n → r ≡ refusal.Broken m v → q ≡ refusal.Broken n w → Alike (Err r) (Err q)
same_number r q m n v w same x y = broken (ap Err x ∙ ap (λ (k : ℕ). Err (refusal.Broken k v)) same) (ap Err y)

-- ---- obligations

-- the first obligation that fails is one
none_earlier : Laws → (d : tree.Design) (m n : ℕ) (r q : Report) → IsFailing d m r → IsFailing d n q → m < n → ⊥
none_earlier laws d m n r q h k less =
    laws.no_failure d h.obligation h.says.failure h.says.fails (of_first (NeverFails d) (all_obligations d) m n h.obligation less h.is k.earlier)

one_failing : Laws → (d : tree.Design) (m n : ℕ) (r q : Report) → IsFailing d m r → IsFailing d n q → m ≡ n
one_failing laws d m n r q h k = elim (compared m n) [
  | inl less ↦ absurd (none_earlier laws d m n r q h k less)
  | inr (inl same) ↦ same
  | inr (inr more) ↦ absurd (none_earlier laws d n m q r k h more)
]

abbrev reported_as : Verdict → List ℕ → Report
reported_as v lines = record { verdict = v; lines = lines }

-- its report tells its leaf first
tells_leaf : (d : tree.Design) (o : Obligation) (r : Report) → TellsFailure d o r → (rest : List ℕ) × ◌≡◌ {A = Result Report Refusal} (Ok r) (Ok (failed_leaf o.kind o.level o.role o.number rest))
tells_leaf d o r h =
    let t = h.lines_ in
    let rest = run_lines h.failure ++ t.defs in
    let lines : r.lines ≡ first_line (word_of o.kind) o.level o.role o.number ++ rest =
    t.is ∙ ap (λ role. first_line (word_of o.kind) o.level role o.number ++ rest) h.fails.role in
    (rest, ap Ok (ap₂ reported_as h.verdict_ lines))

same_failing : (d : tree.Design) (n : ℕ) (r q : Report) → IsFailing d n r → IsFailing d n q → Alike (Ok r) (Ok q)
same_failing d n r q h k =
    let one = same_some (slice_get (all_obligations d) n) h.obligation k.obligation h.is k.is in
    let x = tells_leaf d k.obligation r (subst (λ o. TellsFailure d o r) one h.says) in
    let y = tells_leaf d k.obligation q k.says in
    failed k.obligation.kind k.obligation.level k.obligation.role k.obligation.number x.0 y.0 x.1 y.1

two_failing : Laws → (d : tree.Design) (m n : ℕ) (r q : Report) → IsFailing d m r → IsFailing d n q → Alike (Ok r) (Ok q)
two_failing laws d m n r q h k = same_failing d n r q (subst (λ x. IsFailing d x r) (one_failing laws d m n r q h k) h) k

-- ---- one step

-- two verdicts of a step are alike
pub judges_once : Laws → (i : Inputs) (s : Step) (r q : Report) → Judges i s r → Judges i s q → Alike (Ok r) (Ok q)
judges_once laws i (obligations_hold conflicts rounds) r q h k = on_design laws i (λ _ d (m, x) (n, y). two_failing laws d m n r q x y) h k
judges_once laws i (of_generated hosts s) r q h k = judges_once laws (generated hosts) s r q h k
judges_once laws i s r q h k = absurd h

-- it gives none where it refuses
pub judged_or_refused : (i : Inputs) (s : Step) (r : Report) (q : Refusal) → Judges i s r → Refuses i s q → ⊥
judged_or_refused i (obligations_hold conflicts rounds) r q h k = k
judged_or_refused i (of_generated hosts s) r q h k = judged_or_refused (generated hosts) s r q h k
judged_or_refused i s r q h k = absurd h

-- and none where it is good
pub good_or_judged : Laws → (i : Inputs) (s : Step) (r : Report) → IsGood i s → Judges i s r → ⊥
good_or_judged laws i (obligations_hold conflicts rounds) r g h =
    on_design laws i (λ _ d refines (n, x). laws.no_refuted d x.obligation x.says.failure x.says.fails refines) g h
good_or_judged laws i (of_generated hosts s) r g h = good_or_judged laws (generated hosts) s r g h
good_or_judged laws i s r g h = absurd h

-- of two refusals of a step: they are one, or are alike where the step is decided by a search
abbrev pub Once : Step → (r q : Refusal) → Type 0
Once (assumptions_met conflicts) r q = Alike (Err r) (Err q)
Once (of_generated hosts s) r q = Once s r q
Once s r q = r ≡ q

pub refuses_once : Laws → (i : Inputs) (s : Step) (r q : Refusal) → Decided i s → Refuses i s r → Refuses i s q → Once s r q
refuses_once laws i (is_there file) r q b h k = h.1 ∙ sym k.1
refuses_once laws i (is_within file most) r q b h k = on_text i file (λ t (_, x) (_, y). x ∙ sym y) h k
refuses_once laws i design_reads r q b h k =
    on_text i Design (λ t (f, first, x) (g, one, y). x ∙ ap (λ f. refusal.Language (NoTree f)) (laws.one_fault t f g first one) ∙ sym y) h k
refuses_once laws i design_well_formed r q b h k =
    on_design laws i (λ t d (f, m, first, x) (g, n, one, y). x ∙ rule_at t f g m n (laws.one_rule d (fault_at f m) (fault_at g n) first one) ∙ sym y) h k
refuses_once laws i design_within r q b h k =
    on_design laws i (λ t d (l, m, over, x) (o, n, one, y).
    let same = laws.one_limit d l o over.0 one.0 over.1 one.1 in
    x ∙ over_by l o m n same.0 (over.2 ∙ ap reported same.1 ∙ sym one.2) ∙ sym y) h k
refuses_once laws i definitions_read r q b h k =
    on_text i Definitions (λ t (f, first, x) (g, one, y). x ∙ ap (λ f. refusal.Definitions (definitions.NoTree f)) (laws.one_defs_fault t f g first one) ∙ sym y) h k
refuses_once laws i definitions_fit r q b h k =
    on_both laws i (λ _ d u e (f, first, x) (g, one, y).
    x ∙ ap (λ f. refusal.Definitions (told u f)) (same_some (first_of (defs_faults d e)) f g first one) ∙ sym y) h k
refuses_once laws i definitions_within r q b h k = on_defs laws i (λ _ e (_, x) (_, y). x ∙ sym y) h k
refuses_once laws i (assumptions_met conflicts) r q b h k =
    on_both laws i (λ _ d _ e (m, v, first, x) (n, w, other, y). same_number r q m n v w (one_broken d (defs_of d e) m n v w first other) x y) h k
refuses_once laws i trees_within r q b h k =
    on_design laws i (λ _ d (m, first, x) (n, other, y).
    x ∙ ap (λ (c : ℕ). refusal.OverLimit Leaves (reported c)) (same_some (first_above most_leaves (all_counts d)) m n first other) ∙ sym y) h k
refuses_once laws i (obligations_hold conflicts rounds) r q b h k = absurd h
refuses_once laws i (certificates_read out) r q b h k =
    h.2 ∙ ap unread_as (one_certificates_fault b.0 out h.0 k.0 (h.1 b.0 b.1) (k.1 b.0 b.1)) ∙ sym k.2
refuses_once laws i (certificates_counted out) r q b h k =
    on_certified laws i out b (λ d certs (f, w, x, e) (g, v, y, z).
    e ∙ ap₂ (λ (m n : ℕ). refusal.Unread files.Certificates (cause.Count m n)) (x.found_ ∙ sym y.found_) (x.wanted_ ∙ sym y.wanted_) ∙ sym z) h k
refuses_once laws i (certificates_accepted out) r q b h k = on_certified laws i out b (λ d certs x y. one_unaccepted d certs r q x y) h k
refuses_once laws i (wires_read out) r q b h k =
    h.2
    ∙ ap unread_as ((laws.one_reading b.0 out).one_fault h.0 k.0 (of_files h.0 (subst IsOfFiles h.2 h.3)) (of_files k.0 (subst IsOfFiles k.2 k.3))
    (subst (λ content. ContentFault content out h.0) b.1 h.1.0) (subst (λ content. ContentFault content out k.0) b.1 k.1.0))
    ∙ sym k.2
refuses_once laws i (wires_same out) r q b h k =
    on_net laws i (λ t net u v. on_wires i out b (λ old (w, x, e) (z, y, f).
    e ∙ ap (λ (d : Wiring). refusal.Unread files.Network (cause.Wiring d)) (laws.one_difference old net w z (of_networks old net w x) (of_networks old net z y)) ∙ sym f) u v) h k
refuses_once laws i lowering_within r q b h k =
    on_both laws i (λ _ d _ e (l, m, over, x) (o, n, one, y).
    let same = laws.one_over d e l o m n over one in
    x ∙ over_by l o m n same.0 same.1 ∙ sym y) h k
refuses_once laws i (level_there level) r q b h k = on_design laws i (λ _ d (_, x) (_, y). x ∙ sym y) h k
refuses_once laws i (lines_formed level) r q b h k =
    on_design laws i (λ _ d u v. on_text i CaseFile (λ t (m, says, x) (n, said, y). x ∙ ap (refusal.Line CaseFile) (same_err (case_of level d t) m n says said) ∙ sym y) u v) h k
refuses_once laws i (bundle_reads out) r q b h k =
    h.2
    ∙ ap unread_as (b.2.one_fault h.0 k.0 (of_files h.0 (subst IsOfFiles h.2 h.3)) (of_files k.0 (subst IsOfFiles k.2 k.3))
    (subst (λ content. ContentFault content out h.0) b.1 h.1) (subst (λ content. ContentFault content out k.0) b.1 k.1))
    ∙ sym k.2
refuses_once laws i (packets_judged out) r q b h k =
    on_bundle i out b (λ net u v. on_text i PacketsFile (λ t (f, says, x) (g, said, y).
    same_some (packets_refusal g) r q (ap packets_refusal (sym (same_err (judged_by net t) f g says said)) ∙ x) y) u v) h k
refuses_once laws i (copies_within out hops) r q b h k = on_packets i out b (λ net ps (_, x) (_, y). x ∙ sym y) h k
refuses_once laws i switch_files_within r q b h k =
    on_net laws i (λ t n (f, over, x) (g, one, y). x ∙ ap is_long (one_over (all_switch_files n.switches) f g over one) ∙ sym y) h k
refuses_once laws i certificates_within r q b h k = absurd h
refuses_once laws i network_file_within r q b h k = on_net laws i (λ t n (_, x) (_, y). x ∙ sym y) h k
refuses_once laws i bundle_written r q b h k = absurd h
refuses_once laws i (sent_within hosts packets) r q b h k = on_net laws i (λ t n (_, x) (_, y). x ∙ sym y) h k
refuses_once laws i (of_generated hosts s) r q b h k = refuses_once laws (generated hosts) s r q b h k

pub good_or_refused : Laws → (i : Inputs) (s : Step) (r : Refusal) → Decided i s → IsGood i s → Refuses i s r → ⊥
good_or_refused laws i (is_there file) r b g h = let no : ◌≡◌ {A = Option (List ℕ)} (Some g.text) None = sym g.is ∙ h.0 in cc
good_or_refused laws i (is_within file most) r b g h = on_text i file (λ t short (long, _). let few : length t ≤ most = short in let many : most < length t = long in omega arith) g h
good_or_refused laws i design_reads r b g h =
    on_text {P = λ t. (d : tree.Design) × Reads t d} i Design (λ t (d, reads) (f, first, _). laws.no_fault t d f reads first) (record { text = g.text; is = g.is; holds = (g.design, g.reads) }) h
good_or_refused laws i design_well_formed r b g h = on_design laws i (λ t d x (f, m, first, _). laws.no_rule d (fault_at f m) x first) g h
good_or_refused laws i design_within r b g h = on_design laws i (λ t d x (l, m, over, _). laws.no_limit d l over.0 x over.1) g h
good_or_refused laws i definitions_read r b g h =
    on_text {P = λ t. (e : tree.DefsText) × ReadsDefs t e} i Definitions (λ t (e, read) (f, first, _). laws.no_defs_fault t e f read first) (record { text = g.text; is = g.are; holds = (g.defs, g.read) }) h
good_or_refused laws i definitions_fit r b g h =
    on_both laws i (λ _ d _ e fit (f, first, _). let no : ◌≡◌ {A = Option DefsFault} None (Some f) = sym (ap first_of fit) ∙ first in cc) g h
good_or_refused laws i definitions_within r b g h =
    on_defs laws i (λ _ e few (many, _). let x : row_count e ≤ most_rows = few in let y : most_rows < row_count e = many in omega arith) g h
good_or_refused laws i (assumptions_met conflicts) r b g h =
    on_both laws i (λ _ d _ e met (n, v, false_at, _). none_broken d (defs_of d e) n v met false_at) g h
good_or_refused laws i trees_within r b g h =
    on_design laws i (λ _ d few (n, first, _). let no : ◌≡◌ {A = Option ℕ} None (Some n) = sym few ∙ first in cc) g h
good_or_refused laws i (obligations_hold conflicts rounds) r b g h = h
good_or_refused laws i (certificates_read out) r b g h = read_or_fault b.0 out g.certs h.0 (g.given b.0 b.1) (h.1 b.0 b.1)
good_or_refused laws i (certificates_counted out) r b g h = on_certified laws i out b (λ d certs many (f, w, x, e). x.differ many) g h
good_or_refused laws i (certificates_accepted out) r b g h = on_certified laws i out b (λ d certs all x. accepted_or_not d certs r all.0 x) g h
good_or_refused laws i (wires_read out) r b g h =
    b.2.no_fault g.wires h.0 (of_files h.0 (subst IsOfFiles h.2 h.3)) h.1.1 (g.given b.0 b.1) (subst (λ content. ContentFault content out h.0) b.1 h.1.0)
good_or_refused laws i (wires_same out) r b g h = on_net laws i (λ t net u v. on_wires i out b (λ old same (w, x, e). same_or_differ old net w same x) u v) g h
good_or_refused laws i lowering_within r b g h = on_both laws i (λ _ d _ e (_, _, within) (l, n, over, _). laws.no_over d e l n within over) g h
good_or_refused laws i (level_there level) r b g h =
    on_design laws i (λ _ d there (over, _). let x : level ≤ last_level d = there in let y : last_level d < level = over in omega arith) g h
good_or_refused laws i (lines_formed level) r b g h = on_design laws i (λ _ d u v. on_text i CaseFile (λ t (c, says) (n, not, _). ok_or_err (case_of level d t) c n says not) u v) g h
good_or_refused laws i (bundle_reads out) r b g h =
    b.2.no_fault g.net h.0 (of_files h.0 (subst IsOfFiles h.2 h.3)) (subst (λ content. ContentReads content out g.net) b.1 g.reads) (subst (λ content. ContentFault content out h.0) b.1 h.1)
good_or_refused laws i (packets_judged out) r b g h =
    on_bundle i out b (λ net u v. on_text i PacketsFile (λ t (ps, says, _) (f, not, _). ok_or_err (judged_by net t) ps f says not) u v) g h
good_or_refused laws i (copies_within out hops) r b g h = on_packets i out b (λ net ps within (over, _). all_or_over net hops ps within over) g h
good_or_refused laws i switch_files_within r b g h = on_net laws i (λ t n fit (f, over, _). none_over (all_switch_files n.switches) f fit over) g h
good_or_refused laws i certificates_within r b g h = h
good_or_refused laws i network_file_within r b g h =
    on_net laws i (λ t n short (long, _). let few : length (net_text t n) ≤ most_of files.Network = short in let many : most_of files.Network < length (net_text t n) = long in omega arith) g h
good_or_refused laws i bundle_written r b g h = h
good_or_refused laws i (sent_within hosts packets) r b g h = on_net laws i (λ t n within (over, _). none_sent_over n hosts packets within over) g h
good_or_refused laws i (of_generated hosts s) r b g h = good_or_refused laws (generated hosts) s r b g h
