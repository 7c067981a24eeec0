-- Cited by the steps of `update` in Steps.antt, and through them by `keeps` of `run`, and by the clauses of standing.rt. What is
-- read of the bundle that stands under the name of an `update`: its certificates, and of the file of its network the wires.
-- Of a folder whose content is not known nothing is said. It follows "Certificates" and "How a bundle is read back" in
-- docs/FORMATS.md.
use Rattle.std.specs.Prelude.{◌≡◌, ◌<◌, ℕ, List, map, length, Option, Some, None, Ok}
use Rattle.std.specs.FinMap.{get}
use Rattle.cocoon_io.specs.Files.{Files}
use Rattle.cocoon_io.specs.declared.folder.FolderFault.TheVariants.{TooLong}
use Rattle.cocoon_num.specs.Tree.{Design}
use Rattle.cocoon_num.specs.declared.limit_name.LimitName.TheVariants.{Clauses}
use Rattle.bundle_reader.specs.Alone.{IsOfFile, WiresRead}
use Rattle.bundle_reader.specs.Parts.{OfFiles}
use Rattle.bundle_reader.specs.Readings.{ContentFault, Held}
use Rattle.bundle_reader.specs.declared.fault.ReadFault.{ReadFault}
use Rattle.bundle_reader.specs.declared.fault.ReadFault.TheVariants.{Missing, Folder, NotJson, Shape}
use Rattle.cert_text.specs.CertsForm.{certs_form}
use Rattle.cert_text.specs.Rechecking.{Tells}
use Rattle.cert_text.specs.declared.fault.CertFault.TheVariants as fault
use Rattle.cnf_core.specs.CertsOf.{cert_of}
use Rattle.cnf_core.specs.declared.certificates.Cert.{Cert}
use Rattle.json_forms.specs.Reading.{Answered, Refused}
use Rattle.json_forms.specs.declared.fault.FormFault.TheVariants as form
use Rattle.net_bundle.specs.Bundle.{whole_name}
use Rattle.net_bundle.specs.Writing.{most_of}
use Rattle.net_bundle.specs.declared.file.BundleFile.TheVariants.{Certificates, Network}
use Rattle.p4_ir.specs.NetTree.{NetData}
use Rattle.command_reports.specs.declared.refusal.BundleCause.TheVariants as cause
use Rattle.command_reports.specs.declared.refusal.Refusal.{Refusal}
use Rattle.command_reports.specs.declared.refusal.Refusal.TheVariants.{OverLimit, Unread}

-- ---- certificates

-- the file of certificates has the form of these
pub record CertificatesRead (files : Files) (out : List ℕ) (certs : List Cert) : Type 0 where
  pub bytes : List ℕ
  pub held : Held files out Certificates bytes
  pub read : Answered certs_form bytes (Ok (map cert_of certs))

-- the first fault of that file: it is not there, has more bytes than it may, or is not of its form
abbrev pub IsCertificatesFault : Files → (out : List ℕ) → ReadFault → Type 0
IsCertificatesFault files out (Missing file) =
    (file ≡ Certificates) × (get files (whole_name out Certificates) ≡ None)
IsCertificatesFault files out (Folder file (TooLong most)) =
    (file ≡ Certificates) × (most ≡ most_of Certificates)
    × ((bytes : List ℕ) × (get files (whole_name out Certificates) ≡ Some bytes)
    × (most < length bytes))
IsCertificatesFault files out (NotJson file) =
    (file ≡ Certificates) × ((bytes : List ℕ) × Held files out Certificates bytes
    × Refused certs_form bytes form.NotJson)
IsCertificatesFault files out (Shape file pointer) =
    (file ≡ Certificates) × ((bytes : List ℕ) × Held files out Certificates bytes
    × Refused certs_form bytes (form.Shape pointer))
IsCertificatesFault files out _ = ⊥

-- one of them is not accepted for a design: the first does not show its obligation, or its query is too large
abbrev pub NotAccepted : Design → List Cert → Refusal → Type 0
NotAccepted d certs (Unread file (cause.Refused number)) =
    (file ≡ Certificates) × Tells d certs (fault.Refused number)
NotAccepted d certs (OverLimit limit count) = (limit ≡ Clauses) × Tells d certs (fault.Big count)
NotAccepted d certs r = ⊥

-- ---- folders

-- the same, where the content is known
abbrev pub GivesCertificates : Option Files → (out : List ℕ) → List Cert → Type 0
GivesCertificates content out certs = OfFiles content (λ files. CertificatesRead files out certs)

abbrev pub LacksCertificates : Option Files → (out : List ℕ) → ReadFault → Type 0
LacksCertificates content out fault = OfFiles content (λ files. IsCertificatesFault files out fault)

-- the file of the network gives these wires
abbrev pub GivesWires : Option Files → (out : List ℕ) → NetData → Type 0
GivesWires content out net = OfFiles content (λ files. WiresRead files out net)

-- its first fault
abbrev pub LacksWires : Option Files → (out : List ℕ) → ReadFault → Type 0
LacksWires content out fault = ContentFault content out fault × IsOfFile Network fault
