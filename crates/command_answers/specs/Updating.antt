-- Cited by the clauses of standing.rt and update.rt. What an `update` makes of its two texts over the bundle that stands under its
-- name, or why there is nothing to write.
use Rattle.std.specs.Prelude.{◌≡◌, ◌⊎◌, ℕ, List, length, map, Option, Some, None, Ok, Result}
use Rattle.std.specs.FinMap.{get}
use Rattle.std.specs.List.{AllZip}
use Rattle.cocoon_io.specs.Files.{Files}
use Rattle.cocoon_num.specs.Reads.{Reads}
use Rattle.cocoon_num.specs.Tree.{Design}
use Rattle.cocoon_num.specs.declared.limit_name.LimitName.TheVariants.{Clauses, Leaves}
use Rattle.bundle_reader.specs.Alone.{NotRead}
use Rattle.bundle_reader.specs.Parts.{OfFiles}
use Rattle.bundle_reader.specs.Readings.{Held}
use Rattle.bundle_reader.specs.declared.fault.ReadFault.{ReadFault}
use Rattle.cert_text.specs.CertsForm.{certs_form}
use Rattle.cert_text.specs.Certifying.{Certifies}
use Rattle.cert_text.specs.Faults.{IsNoFile}
use Rattle.cert_text.specs.Rechecking.{IsAccepted, Tells}
use Rattle.cert_text.specs.declared.fault.CertFault.{CertFault}
use Rattle.cert_text.specs.declared.fault.CertFault.TheVariants as fault
use Rattle.cnf_core.specs.CertsOf.{cert_of}
use Rattle.cnf_core.specs.declared.certificates.Cert.{Cert}
use Rattle.json_forms.specs.Reading.{Answered}
use Rattle.json_forms.specs.Values.{IsJson}
use Rattle.net_bundle.specs.Bundle.{certificates_name}
use Rattle.net_bundle.specs.BundleNames.{file_name, net_name}
use Rattle.net_bundle.specs.NetJson.{NetFile, net_data}
use Rattle.net_bundle.specs.Network.{file_wiring}
use Rattle.net_bundle.specs.declared.file.BundleFile.TheVariants.{Certificates, Network}
use Rattle.net_wiring.specs.Differences.{FirstOfWires, SameWires}
use Rattle.net_wiring.specs.declared.wiring.Wiring.{Wiring}
use Rattle.obligation_gen.specs.Counted.{AreFew, all_counts}
use Rattle.obligation_laws.specs.Obligations.{all_obligations}
use Rattle.p4_ir.specs.NetFits.{wiring_of}
use Rattle.shared_net.specs.Shared.{shared_of}
use Rattle.p4_ir.specs.NetTree.{NetData}
use Rattle.refinement.specs.Owed.{Refines}
use Rattle.lower_p4.specs.LowerLimits.{IsWithin}
use Rattle.lower_p4.specs.Lowers.{Lowers}
use Rattle.runtime_defs.specs.Places.{Places}
use Rattle.command_reports.specs.DesignTexts.{BindsTables}
use Rattle.command_reports.specs.FileNames.{FileNames}
use Rattle.command_reports.specs.Refusals.{unread_as}
use Rattle.command_reports.specs.declared.refusal.BundleCause.TheVariants as cause
use Rattle.command_reports.specs.declared.refusal.Refusal.{Refusal}
use Rattle.command_reports.specs.declared.refusal.Refusal.TheVariants as refusal
use Rattle.command_answers.specs.Compiling.{LongFile, LowersTexts, NotLowered}
use Rattle.command_answers.specs.Standing.{GivesWires, LacksWires}
use Rattle.command_answers.specs.declared.answer.Writing.{Writing}
use Rattle.command_answers.specs.declared.answer.Writing.TheVariants as written

-- ---- certificates

-- what is told of certificates that are not accepted
abbrev pub certificates_refusal : CertFault → Refusal
certificates_refusal fault.NotJson = refusal.Unread Certificates cause.NotJson
certificates_refusal (fault.Shape pointer) = refusal.Unread Certificates (cause.Shape pointer)
certificates_refusal (fault.Refused number) = refusal.Unread Certificates (cause.Refused number)
certificates_refusal (fault.Count found wanted) =
    refusal.Unread Certificates (cause.Count found wanted)
certificates_refusal (fault.Paths leaves) = refusal.OverLimit Leaves leaves
certificates_refusal (fault.Big clauses) = refusal.OverLimit Clauses clauses
certificates_refusal fault.NoMemory = refusal.NoMemory

-- the bytes are a file of so many certificates, which show what the design owes, each its own obligation
pub record Accepts (d : Design) (bytes : List ℕ) (count : ℕ) : Type 0 where
  pub certs : List Cert
  pub read : Answered certs_form bytes (Ok (map cert_of certs))
  pub few : AreFew (all_counts d)
  pub accepted : AllZip (IsAccepted d) (all_obligations d) certs
  pub refines : Refines d
  pub certify : Certifies d bytes
  pub counted : count ≡ length certs

-- or they are not: they are no file of certificates, or these do not show what the design owes
pub data NotAccepts (d : Design) (bytes : List ℕ) (r : Refusal) : Type 0 where
  unformed : (fault : CertFault) → IsNoFile bytes fault → r ≡ certificates_refusal fault
      → NotAccepts d bytes r
  unshown : (certs : List Cert) (fault : CertFault)
      → Answered certs_form bytes (Ok (map cert_of certs)) → Tells d certs fault
      → r ≡ certificates_refusal fault → NotAccepts d bytes r

-- these bytes are the file of certificates under a name
abbrev pub HoldsCertificates : Option Files → (out : List ℕ) → (bytes : List ℕ) → Type 0
HoldsCertificates content out bytes = OfFiles content (λ files. Held files out Certificates bytes)

-- why that file is not read
abbrev pub HoldsNoCertificates : Option Files → (out : List ℕ) → Refusal → Type 0
HoldsNoCertificates content out r =
    (fault : ReadFault) × NotRead Certificates content out fault × (r ≡ unread_as fault)

-- ---- the bundle that stands

-- so many certificates under a name show what the design owes, and the wires under it are these
pub record HasStanding (content : Option Files) (out : List ℕ) (d : Design) (count : ℕ)
    (wires : NetData) : Type 0 where
  pub bytes : List ℕ
  pub held : HoldsCertificates content out bytes
  pub accepts : Accepts d bytes count
  pub given : GivesWires content out wires

-- why not: of wires only where the certificates are accepted
pub data NotStanding (content : Option Files) (out : List ℕ) (d : Design) (r : Refusal)
    : Type 0 where
  unread : HoldsNoCertificates content out r → NotStanding content out d r
  unaccepted : (bytes : List ℕ) → HoldsCertificates content out bytes → NotAccepts d bytes r
      → NotStanding content out d r
  unwired : (bytes : List ℕ) (count : ℕ) → HoldsCertificates content out bytes
      → Accepts d bytes count → (fault : ReadFault) → LacksWires content out fault
      → r ≡ unread_as fault → NotStanding content out d r

-- ---- the network

-- the second has other wires than the first, and the refusal tells the first difference
abbrev pub HasOtherWires : (old new : NetData) → Refusal → Type 0
HasOtherWires old new (refusal.Unread file (cause.Wiring difference)) =
    (file ≡ Network) × FirstOfWires old new difference
HasOtherWires old new refusal.NoMemory = Unit {0}
HasOtherWires old new _ = ⊥

-- the network of two texts has other wires than these, and this is the first difference
pub record OtherWires (old : NetData) (design defs : List ℕ) (difference : Wiring) : Type 0 where
  pub tree : Design
  pub tables : Places
  pub binds : BindsTables design defs tree tables
  pub net : NetData
  pub lowers : Lowers tree binds.entries net
  pub within : IsWithin tree binds.entries
  pub differs : FirstOfWires old net difference

-- Why no network with these wires is made of a design and definitions that fit it. Of one whose files would be too
-- long its wires are known to be these.
abbrev pub NotRewired : NetData → (design defs : List ℕ) → Design → Places → Refusal → Type 0
NotRewired old design defs tree tables (refusal.Unread file (cause.Wiring difference)) =
    (file ≡ Network) × OtherWires old design defs difference
NotRewired old design defs tree tables (refusal.TooLong file most) =
    (long : LongFile design defs tree tables file most) × SameWires old long.net
NotRewired old design defs tree tables (refusal.OverLimit limit count) =
    NotLowered design defs tree tables (refusal.OverLimit limit count)
NotRewired old design defs tree tables refusal.NoMemory = Unit {0}
NotRewired old design defs tree tables _ = ⊥

-- ---- what is written

-- the bundle of the network of both texts under the given name, without certificates
abbrev pub Updates : (out design defs : List ℕ) → Writing → Type 0
Updates out design defs (written.Bundle name net None) =
    (name.now ≡ out) × LowersTexts design defs (shared_of net)
Updates out design defs w = ⊥

-- Certificates of the design stand under the name, and the file of a network with these wires.
pub record Stands (files : Files) (out design : List ℕ) (net : NetData) : Type 0 where
  pub tree : Design
  pub reads : Reads design tree
  pub certificates : List ℕ
  pub stand : get files (file_name out certificates_name) ≡ Some certificates
  pub certify : Certifies tree certificates
  pub network : NetFile
  pub network_text : List ℕ
  pub network_is : get files (file_name out net_name) ≡ Some network_text
  pub json : IsJson network_text (net_data network)
  pub same_wires : wiring_of net ≡ file_wiring network

-- the same of the bundle that is written
abbrev pub StandsUnder : Option Files → (out design : List ℕ) → Writing → Type 0
StandsUnder content out design (written.Bundle name net certificates) =
    OfFiles content (λ files. Stands files out design (shared_of net))
StandsUnder content out design w = ⊥
