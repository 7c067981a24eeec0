-- Certificates that show what a design owes, when they are checked and when they are read.
use Rattle.std.proofs.Common.{◌≡◌, ◌≢◌, ℕ, List, length, Some, sym, subst, ◌∙◌}
use Rattle.std.specs.Prelude.{Ok}
use Rattle.std.proofs.lemmas.Slice.Zip.{AllZip-long}
use Rattle.cocoon_num.specs.Tree.{Design}
use Rattle.json_forms.specs.Reading.{Answered}
use Rattle.json_forms.specs.Values.{IsJson}
use Rattle.cnf_core.specs.CertsOf.{certs_of}
use Rattle.cnf_core.specs.declared.certificates.Cert.{Cert}
use Rattle.cnf_core.specs.declared.certificates.Certs.{Certs}
use Rattle.cert_text.specs.CertsForm.{certs_form}
use Rattle.cert_text.specs.CertsJson.{certs_data}
use Rattle.obligation_laws.specs.Obligations.{all_obligations}
use Rattle.cert_text.specs.Certifying.{Certifies, CertsShow, Shows}
use Rattle.cert_text.specs.Rechecking.{FirstIs, IsRefused, reported}
use Rattle.cert_text.proofs.SideBySide.{beside}

same_some : {A : Type 0} (x y : A) → Some x ≡ Some y → x ≡ y
same_some x y e = cc

pub not_refused : (d : Design) (certs : List Cert) → CertsShow d certs → (number : ℕ) → FirstIs d certs (λ n o cert. IsRefused d o cert × (number ≡ reported n)) → ⊥
not_refused d certs shows number first =
    let at = first.here in
    let found = beside (Shows d) (all_obligations d) certs shows first.number at.obligation at.owed in
    at.is.0.shows_not (subst (Shows d at.obligation) (same_some found.0 at.cert (sym found.1 ∙ at.given)) found.2)

pub not_miscounted : (d : Design) (certs : List Cert) → CertsShow d certs → length certs ≢ length (all_obligations d) → ⊥
not_miscounted d certs shows differ = differ (AllZip-long (Shows d) (all_obligations d) certs shows)

pub file_of : (d : Design) (bytes : List ℕ) (certs : Certs) (read : Answered certs_form bytes (Ok (certs_of certs))) → read.value ≡ certs_data (certs_of certs) → CertsShow d certs.certs → Certifies d bytes
file_of d bytes certs read e shows = record { certs = certs.certs; is = subst (IsJson bytes) e read.is; shows = shows }
