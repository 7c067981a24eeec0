-- What `update` answers over its two texts and the bundle that stands, put together from its parts.
use Rattle.std.proofs.Common.{◌≡◌, ◌≤◌, ◌⊎◌, ◌↔◌, ℕ, List, [], ◌∷◌, ◌++◌, length, map, Option, Some, None, Ok, Err, IsTrue, refl, sym, ap, ap₂, subst, ◌∙◌, inl, inr}
use Rattle.std.specs.List.{AllZip}
use Rattle.std.proofs.lemmas.Slice.Zip.{AllZip-long}
use Rattle.serde_json.specs.Data.{Data}
use Rattle.cocoon_io.specs.Files.{Files}
use Rattle.cocoon_io.specs.declared.folder.FolderFault.TheVariants.{Failed, TooLong, NoMemory as Wanting}
use Rattle.cocoon_num.specs.Reads.{Reads}
use Rattle.cocoon_num.specs.Tree as tree
use Rattle.cocoon_num.specs.declared.limit_name.LimitName.{LimitName}
use Rattle.cocoon_num.specs.declared.limit_name.LimitName.TheVariants.{Leaves}
use Rattle.net_bundle.specs.NetForm.{file_fits, net_form}
use Rattle.bundle_reader.specs.Alone.{IsOfFile, NotRead, bare_net}
use Rattle.bundle_reader.specs.declared.fault.ReadFault.{ReadFault}
use Rattle.bundle_reader.specs.declared.fault.ReadFault.TheVariants as read
use Rattle.cert_text.specs.CertsForm.{certs_form}
use Rattle.cert_text.specs.Faults.{IsNoFile}
use Rattle.cert_text.specs.Rechecking.{IsAccepted, Tells}
use Rattle.cert_text.specs.declared.fault.CertFault.{CertFault}
use Rattle.cert_text.specs.declared.fault.CertFault.TheVariants as fault
use Rattle.cnf_core.specs.CertsOf.{cert_of}
use Rattle.cnf_core.specs.declared.certificates.Cert.{Cert}
use Rattle.json_forms.specs.Reading.{Answered}
use Rattle.json_forms.specs.Values.{IsJson}
use Rattle.net_bundle.specs.NetJson.{NetFile, net_data}
use Rattle.net_bundle.specs.Network.{file_wiring}
use Rattle.net_bundle.specs.declared.file.BundleFile.{BundleFile}
use Rattle.net_bundle.specs.declared.file.BundleFile.TheVariants.{Certificates, Network}
use Rattle.net_wiring.specs.Bare.{bare_switch}
use Rattle.net_wiring.specs.Differences.{FirstOfWires, SameWires}
use Rattle.net_wiring.proofs.BareNumbers.{bare_numbers}
use Rattle.net_wiring.specs.declared.wiring.Wiring.{Wiring}
use Rattle.obligation_gen.specs.Counted.{AreFew, all_counts}
use Rattle.obligation_laws.specs.Obligations.{all_obligations}
use Rattle.p4_ir.specs.NetFits.{switch_numbers, wiring_of}
use Rattle.p4_ir.specs.NetTree.{HostPort, Link, NetData}
use Rattle.p4_ir.specs.Wiring.{Wiring as Wires}
use Rattle.refinement.specs.Owed.{Refines}
use Rattle.runtime_defs.specs.Places.{Places}
use Rattle.command_line.specs.Command.{update}
use Rattle.command_reports.specs.Refusals.{IsOfFiles, unread_as}
use Rattle.command_reports.specs.Report.{success}
use Rattle.command_reports.specs.declared.files.CommandFile.{CommandFile}
use Rattle.command_reports.specs.declared.files.CommandFile.TheVariants.{Bundle, Design}
use Rattle.command_reports.specs.declared.refusal.BundleCause.TheVariants as cause
use Rattle.command_reports.specs.declared.refusal.Refusal.{Refusal}
use Rattle.command_reports.specs.declared.refusal.Refusal.TheVariants as refusal
use Rattle.command_reports.specs.declared.report.Report.{Report}
use Rattle.command_reports.specs.DesignTexts.{BindsTables}
use Rattle.command_answers.specs.Commands.{Reports, asks, certificate_steps, rewiring_steps, text_steps}
use Rattle.command_answers.specs.Compiling.{LowersDesign, LowersTexts}
use Rattle.command_answers.specs.Outcomes.{AllGood, none, good, Ends, no_memory}
use Rattle.command_answers.specs.ReportLines.{totals_of, updated_line}
use Rattle.command_answers.specs.Standing.{GivesCertificates, GivesWires, LacksCertificates, LacksWires}
use Rattle.command_answers.specs.Steps.{Inputs, OfStandingCertificates, OfStandingWires, Step, IsGood, assumptions_met, bundle_written, certificates_accepted, certificates_counted, certificates_read, lowering_within, network_file_within, switch_files_within, trees_within, wires_read, wires_same}
use Rattle.command_answers.specs.Updating.{Accepts, HasStanding, HoldsCertificates, HoldsNoCertificates, NotAccepts, NotRewired, NotStanding, OtherWires, Stands, unaccepted, unformed, unread, unshown, unwired, certificates_refusal}
use Rattle.command_answers.proofs.Assuming.{met_good}
use Rattle.command_answers.proofs.Compiling.{on_net}
use Rattle.command_answers.proofs.Ending.{ends_after, next, refused, stopped}
use Rattle.command_answers.proofs.TextSteps.{Texts, after_texts, on_both, on_design, texts_good}

-- the steps on the network, and those of writing
abbrev pub rewriting : List ℕ → List Step
rewriting o = lowering_within ∷ wires_same o ∷ switch_files_within ∷ network_file_within ∷ bundle_written ∷ []

-- all steps behind the assumptions
abbrev pub standing : List ℕ → List Step
standing o = certificate_steps o (wires_read o ∷ rewriting o)

-- ---- certificates

module _ (i : Inputs) (o : List ℕ) where
  -- these certificates stand
  given : (bytes : List ℕ) (certs : List Cert) → HoldsCertificates i.content o bytes → Answered certs_form bytes (Ok (map cert_of certs)) → GivesCertificates i.content o certs
  given bytes certs held is = λ files at. record { bytes = bytes; held = held files at; read = is }

  on_certificates : {P : List Cert → Type 0} (bytes : List ℕ) (certs : List Cert) → HoldsCertificates i.content o bytes → Answered certs_form bytes (Ok (map cert_of certs)) → P certs → OfStandingCertificates i o P
  on_certificates bytes certs held is p = record { certs = certs; given = given bytes certs held is; holds = p }

  -- their file is not read
  unread_ends : (rest : List Step) (f : ReadFault) (r : Refusal) → NotRead Certificates i.content o f → r ≡ unread_as f → Ends i (Err r) (certificates_read o ∷ rest)
  unread_ends rest (read.Missing file) r h e =
      refused i r (certificates_read o) rest (read.Missing file, λ files at. (h.0, h.1 files at), e, subst IsOfFiles (sym e) tt)
  unread_ends rest (read.Folder file Failed) r h e = stopped i r (certificates_read o) rest (e ∙ ap (λ (f : BundleFile). refusal.ReadFault (Bundle f)) h)
  unread_ends rest (read.Folder file (TooLong most)) r h e =
      refused i r (certificates_read o) rest (read.Folder file (TooLong most), λ files at. (h.0, h.1, h.2 files at), e, subst IsOfFiles (sym e) tt)
  unread_ends rest (read.Folder file Wanting) r h e = absurd h
  unread_ends rest read.NoMemory r h e = no_memory (ap Err e)
  unread_ends rest f r h e = absurd h

  -- it is not of its form
  unformed_ends : (rest : List Step) (bytes : List ℕ) (f : CertFault) (r : Refusal) → HoldsCertificates i.content o bytes → IsNoFile bytes f → r ≡ certificates_refusal f → Ends i (Err r) (certificates_read o ∷ rest)
  unformed_ends rest bytes fault.NotJson r held h e =
      refused i r (certificates_read o) rest (read.NotJson Certificates, λ files at. (refl, (bytes, held files at, h)), e, subst IsOfFiles (sym e) tt)
  unformed_ends rest bytes (fault.Shape pointer) r held h e =
      refused i r (certificates_read o) rest (read.Shape Certificates pointer, λ files at. (refl, (bytes, held files at, h)), e, subst IsOfFiles (sym e) tt)
  unformed_ends rest bytes fault.NoMemory r held h e = no_memory (ap Err e)
  unformed_ends rest bytes f r held h e = absurd h

module _ (i : Inputs) (o x : List ℕ) (d : tree.Design) (is : i.file Design ≡ Some x) (reads : Reads x d) where
  -- the certificates do not show what the design owes
  unshown_ends : (rest : List Step) (bytes : List ℕ) (certs : List Cert) (f : CertFault) (r : Refusal) → HoldsCertificates i.content o bytes → Answered certs_form bytes (Ok (map cert_of certs)) → Tells d certs f
      → r ≡ certificates_refusal f → Ends i (Err r) (certificate_steps o rest)
  unshown_ends rest bytes certs (fault.Paths leaves) r held a h e =
      next i _ (certificates_read o) _ (on_certificates i o bytes certs held a tt)
      (refused i r trees_within _ (on_design i x d is reads (h.0, h.1, e ∙ ap (λ (n : ℕ). refusal.OverLimit Leaves n) h.2)))
  unshown_ends rest bytes certs (fault.Count found wanted) r held a h e =
      next i _ (certificates_read o) _ (on_certificates i o bytes certs held a tt)
      (next i _ trees_within _ (on_design i x d is reads h.few)
      (refused i r (certificates_counted o) _ (on_design i x d is reads (on_certificates i o bytes certs held a (found, wanted, h, e)))))
  unshown_ends rest bytes certs (fault.Refused number) r held a h e =
      next i _ (certificates_read o) _ (on_certificates i o bytes certs held a tt)
      (next i _ trees_within _ (on_design i x d is reads h.0.few)
      (next i _ (certificates_counted o) _ (on_design i x d is reads (on_certificates i o bytes certs held a h.0.as_many))
      (subst (λ (q : Refusal). Ends i (Err q) (certificates_accepted o ∷ rest)) (sym e)
      (refused i _ (certificates_accepted o) _ (on_design i x d is reads (on_certificates i o bytes certs held a (refl, h)))))))
  unshown_ends rest bytes certs (fault.Big count) r held a h e =
      next i _ (certificates_read o) _ (on_certificates i o bytes certs held a tt)
      (next i _ trees_within _ (on_design i x d is reads h.0.few)
      (next i _ (certificates_counted o) _ (on_design i x d is reads (on_certificates i o bytes certs held a h.0.as_many))
      (subst (λ (q : Refusal). Ends i (Err q) (certificates_accepted o ∷ rest)) (sym e)
      (refused i _ (certificates_accepted o) _ (on_design i x d is reads (on_certificates i o bytes certs held a (refl, h)))))))
  unshown_ends rest bytes certs fault.NoMemory r held a h e = no_memory (ap Err e)
  unshown_ends rest bytes certs f r held a h e = absurd h

  not_accepted : (rest : List Step) (bytes : List ℕ) (r : Refusal) → HoldsCertificates i.content o bytes → NotAccepts d bytes r → Ends i (Err r) (certificate_steps o rest)
  not_accepted rest bytes r held (unformed f h e) = unformed_ends i o _ bytes f r held h e
  not_accepted rest bytes r held (unshown certs f a h e) = unshown_ends rest bytes certs f r held a h e

  -- all of them are accepted
  pub certificates_good : (rest : List Step) (bytes : List ℕ) (count : ℕ) → HoldsCertificates i.content o bytes → Accepts d bytes count → AllGood i rest → AllGood i (certificate_steps o rest)
  certificates_good rest bytes count held a k =
      good (on_certificates i o bytes a.certs held a.read tt)
      (good (on_design i x d is reads a.few)
      (good (on_design i x d is reads (on_certificates i o bytes a.certs held a.read (AllZip-long (IsAccepted d) (all_obligations d) a.certs a.accepted)))
      (good (on_design i x d is reads (on_certificates i o bytes a.certs held a.read (a.accepted, a.refines))) k)))

-- ---- wires

wires_ends : (i : Inputs) (o : List ℕ) (rest : List Step) (f : ReadFault) (r : Refusal) → LacksWires i.content o f → r ≡ unread_as f → Ends i (Err r) (wires_read o ∷ rest)
wires_ends i o rest (read.Folder file Failed) r h e = stopped i r (wires_read o) rest (e ∙ ap (λ (f : BundleFile). refusal.ReadFault (Bundle f)) h.1)
wires_ends i o rest (read.Folder file Wanting) r h e = no_memory (ap Err e)
wires_ends i o rest read.NoMemory r h e = no_memory (ap Err e)
wires_ends i o rest (read.Folder file (TooLong most)) r h e = refused i r (wires_read o) rest (read.Folder file (TooLong most), h, e, subst IsOfFiles (sym e) tt)
wires_ends i o rest f r h e = refused i r (wires_read o) rest (f, h, e, subst IsOfFiles (sym e) tt)

-- why what stands is not taken
not_standing_here : (i : Inputs) (o x : List ℕ) (d : tree.Design) (r : Refusal) → i.file Design ≡ Some x → Reads x d → NotStanding i.content o d r → Ends i (Err r) (standing o)
not_standing_here i o x d r is reads (unread h) = unread_ends i o _ h.0 r h.1 h.2
not_standing_here i o x d r is reads (unaccepted bytes held h) = not_accepted i o x d is reads (wires_read o ∷ rewriting o) bytes r held h
not_standing_here i o x d r is reads (unwired bytes count held a f h e) =
    ends_after i (Err r) (certificate_steps o []) (wires_read o ∷ rewriting o) (certificates_good i o x d is reads [] bytes count held a none) (wires_ends i o (rewriting o) f r h e)

-- behind assumptions that are met
pub not_standing : (i : Inputs) (o x y : List ℕ) (n : ℕ) (t : tree.Design) (p : Places) (r : Refusal) (content : Option Files) → Texts i x y → BindsTables x y t p → i.content ≡ content → IsGood i (assumptions_met n) → NotStanding content o t r
    → Ends i (Err r) (text_steps (assumptions_met n ∷ standing o))
not_standing i o x y n t p r content g b same met h =
    after_texts i x y (assumptions_met n ∷ standing o) t p _ g b
    (next i (Err r) (assumptions_met n) (standing o) met
    (not_standing_here i o x t r g.design b.binds.checked.reads (subst (λ c. NotStanding c o t r) (sym same) h)))

-- ---- the network

-- what stands, where the content is that of the inputs
pub record Here (i : Inputs) (o : List ℕ) (d : tree.Design) (wires : NetData) : Type 0 where
  pub bytes : List ℕ
  pub count : ℕ
  pub held : HoldsCertificates i.content o bytes
  pub accepts : Accepts d bytes count
  pub given : GivesWires i.content o wires

pub here : (i : Inputs) (o : List ℕ) (d : tree.Design) (count : ℕ) (wires : NetData) (content : Option Files) → i.content ≡ content → HasStanding content o d count wires → Here i o d wires
here i o d count wires content same h = record {
  bytes = h.bytes;
  count = count;
  held = subst (λ c. HoldsCertificates c o h.bytes) (sym same) h.held;
  accepts = h.accepts;
  given = subst (λ c. GivesWires c o wires) (sym same) h.given;
}

on_wires : {P : NetData → Type 0} (i : Inputs) (o : List ℕ) (wires : NetData) → GivesWires i.content o wires → P wires → OfStandingWires i o P
on_wires i o wires given p = record { wires = wires; given = given; holds = p }

-- what stands is taken
pub standing_good : (i : Inputs) (o x : List ℕ) (d : tree.Design) (wires : NetData) (rest : List Step) → i.file Design ≡ Some x → Reads x d → Here i o d wires → AllGood i rest → AllGood i (certificate_steps o (wires_read o ∷ rest))
standing_good i o x d wires rest is reads h k =
    certificates_good i o x d is reads (wires_read o ∷ rest) h.bytes h.count h.held h.accepts (good (on_wires i o wires h.given tt) k)

-- no network with these wires is made
rewired_ends : (i : Inputs) (o x y : List ℕ) (t : tree.Design) (p : Places) (old : NetData) (r : Refusal) → Texts i x y → GivesWires i.content o old → NotRewired old x y t p r → Ends i (Err r) (rewriting o)
rewired_ends i o x y t p old (refusal.Unread file (cause.Wiring w)) g given h =
    let es = h.1.binds.entries in
    next i _ lowering_within _ (on_both i x y h.1.tree es g h.1.binds.binds (h.1.net, h.1.lowers, h.1.within))
    (refused i _ (wires_same o) _ (on_both i x y h.1.tree es g h.1.binds.binds
    (h.1.net, h.1.lowers, on_wires i o old given (w, h.1.differs, ap (λ (f : BundleFile). refusal.Unread f (cause.Wiring w)) h.0))))
rewired_ends i o x y t p old (refusal.TooLong file most) g given h =
    let long = h.0 in
    let es = long.binds.entries in
    next i _ lowering_within _ (on_both i x y t es g long.binds.binds (long.net, long.lowers, long.within))
    (next i _ (wires_same o) _ (on_both i x y t es g long.binds.binds (long.net, long.lowers, on_wires i o old given h.1))
    (refused i _ switch_files_within _ (on_both i x y t es g long.binds.binds
    (long.net, long.lowers, (long.first, long.long, ap₂ (λ (f : CommandFile) (n : ℕ). refusal.TooLong f n) long.names long.limit)))))
rewired_ends i o x y t p old (refusal.OverLimit limit count) g given h =
    refused i _ lowering_within _ (on_both i x y t h.0.entries g h.0.binds (limit, count, h.1, refl))
rewired_ends i o x y t p old refusal.NoMemory g given h = no_memory refl
rewired_ends i o x y t p old r g given h = absurd h

pub not_rewired : (i : Inputs) (o x y : List ℕ) (n : ℕ) (t : tree.Design) (p : Places) (wires : NetData) (r : Refusal) → Texts i x y → BindsTables x y t p → IsGood i (assumptions_met n) → Here i o t wires → NotRewired wires x y t p r
    → Ends i (Err r) (text_steps (assumptions_met n ∷ standing o))
not_rewired i o x y n t p wires r g b met h k =
    after_texts i x y (assumptions_met n ∷ standing o) t p _ g b
    (next i (Err r) (assumptions_met n) (standing o) met
    (ends_after i (Err r) (certificate_steps o (wires_read o ∷ [])) (rewriting o) (standing_good i o x t wires [] g.design b.binds.checked.reads h none) (rewired_ends i o x y t p wires r g h.given k)))

-- ---- a network that is made

pub asks_good : (d e o : List ℕ) (n : ℕ) (i : Inputs) (x y : List ℕ) (t : tree.Design) (p : Places) (wires net : NetData) → Texts i x y → BindsTables x y t p → IsGood i (assumptions_met n) → Here i o t wires → LowersTexts x y net → SameWires wires net
    → AllGood i (asks (update d e o n))
asks_good d e o n i x y t p wires net g b met h l same =
    texts_good i x y (assumptions_met n ∷ certificate_steps o (rewiring_steps o)) t p g b
    (good met (standing_good i o x t wires (lowering_within ∷ wires_same o ∷ []) g.design b.binds.checked.reads h
    (good (on_both i x y l.tree l.binds.entries g l.binds.binds (net, l.lowers, l.within)) (good (on_net i x y net g l (on_wires i o wires h.given same)) none))))

pub reports : (d e o : List ℕ) (n : ℕ) (i : Inputs) (x y : List ℕ) (t : tree.Design) (count : ℕ) (net : NetData) (report : Report) → Texts i x y → LowersDesign x y t net → count ≡ length (all_obligations t)
    → report ≡ success (updated_line (totals_of count net)) → Reports (update d e o n) i report
reports d e o n i x y t count net report g (h, same) counted said =
    let owed : count ≡ length (all_obligations h.tree) = counted ∙ ap (λ (u : tree.Design). length (all_obligations u)) (sym same) in
    on_net i x y net g h (said ∙ ap (λ (m : ℕ). success (updated_line (totals_of m net))) owed)

-- as many certificates as obligations
pub as_many : (d : tree.Design) (bytes : List ℕ) (count : ℕ) → Accepts d bytes count → count ≡ length (all_obligations d)
as_many d bytes count a = a.counted ∙ AllZip-long (IsAccepted d) (all_obligations d) a.certs a.accepted

-- ---- what stood there

abbrev wires_with : ℕ → List ℕ → List Link → List HostPort → Wires
wires_with ports switches links hosts = record { ports = ports; switches = switches; links = links; hosts = hosts }

-- the wires that stand are those of the network
same_wiring : (file : NetFile) (net : NetData) → SameWires (bare_net file) net → wiring_of net ≡ file_wiring file
same_wiring file net s =
    let ports : file.ports ≡ net.ports = s.0.0.0 in
    let switches : switch_numbers (map bare_switch file.switches) ≡ switch_numbers net.switches = s.0.0.1 in
    let hosts : file.hosts ≡ net.hosts = s.0.1 in
    let links : file.links ≡ net.links = s.1 in
    ap (λ n. wires_with n (switch_numbers net.switches) net.links net.hosts) (sym ports)
    ∙ ap (λ ss. wires_with file.ports ss net.links net.hosts) (sym switches ∙ bare_numbers file.switches)
    ∙ ap (λ (ls : List Link). wires_with file.ports file.switches ls net.hosts) (sym links)
    ∙ ap (λ (hs : List HostPort). wires_with file.ports file.switches file.links hs) (sym hosts)

-- what the law on files of networks says
abbrev pub NetForms : Type 0
NetForms = (d : Data) (file : NetFile) → (net_form d ≡ Ok file) ↔ ((d ≡ net_data file) × IsTrue (file_fits file))

pub stands : NetForms → (content : Option Files) (o x : List ℕ) (d : tree.Design) (count : ℕ) (wires net : NetData) → Reads x d → HasStanding content o d count wires → SameWires wires net → (files : Files) → content ≡ Some files → Stands files o x net
stands law content o x d count wires net reads h same files at =
    let w = h.given files at in
    let answered = w.1.2 in
    record {
      tree = d;
      reads = reads;
      certificates = h.bytes;
      stand = (h.held files at).0;
      certify = h.accepts.certify;
      network = w.0;
      network_text = w.1.0;
      network_is = w.1.1.0;
      json = subst (IsJson w.1.0) ((law answered.value w.0).0 answered.answers).0 answered.is;
      same_wires = same_wiring w.0 net (subst (λ old. SameWires old net) w.2 same);
    }
