-- Cited by the clauses of `recheck`: which certificates are accepted, and when each fault comes. It follows the section
-- "Certificates" of docs/FORMATS.md.
use Rattle.std.specs.Prelude.{◌≡◌, ◌≢◌, ℕ, ◌-◌, ◌^◌, ◌≤◌, min, List, length, take, Some, slice_get}
use Rattle.std.specs.List.{AllZip}
use Rattle.cocoon_num.specs.Tree.{Design}
use Rattle.bit_blast.specs.Blasting.{most_clauses}
use Rattle.bit_blast.specs.Clauses.{count_of}
use Rattle.cnf_core.specs.declared.certificates.Cert.{Cert}
use Rattle.obligation_gen.specs.declared.tree.InlineFault.TheVariants as tree
use Rattle.obligation_laws.specs.Obligations.{Obligation, all_obligations}
use Rattle.obligation_gen.specs.Counted.{AreFew, TellsFirst, all_counts}
use Rattle.query_laws.specs.Certified.{AllFit}
use Rattle.query_laws.specs.Queries.{query}
use Rattle.queries.specs.Checked.{IsBig}
use Rattle.cert_text.specs.Certifying.{Shows}
use Rattle.cert_text.specs.declared.fault.CertFault.{CertFault}
use Rattle.cert_text.specs.declared.fault.CertFault.TheVariants.{NotJson, Shape, Refused, Count, Paths, Big, NoMemory}

-- a number as it is told: of one that is over 2^32 - 1, this
abbrev pub reported : ℕ → ℕ
reported n = min n (2 ^ 32 - 1)

-- ---- one certificate

-- if the instances fit, the query with them has no more clauses than are allowed
abbrev pub HasFewClauses : Design → Obligation → Cert → Type 0
HasFewClauses d o cert = AllFit d o.level cert.instances → count_of (query d o.level o.formula cert.instances) ≤ most_clauses

pub record IsAccepted (d : Design) (o : Obligation) (cert : Cert) : Type 0 where
  pub shows : Shows d o cert
  pub few : HasFewClauses d o cert

pub record IsRefused (d : Design) (o : Obligation) (cert : Cert) : Type 0 where
  pub shows_not : ¬ Shows d o cert
  pub few : HasFewClauses d o cert

-- what comes of the certificate of this number, if it is not accepted
abbrev pub Decides : Design → (number : ℕ) → Obligation → Cert → CertFault → Type 0
Decides d number o cert (Refused n) = IsRefused d o cert × (n ≡ reported number)
Decides d number o cert (Big count) = IsBig d o.level o.formula cert count
Decides d number o cert NoMemory = Unit {0}
Decides d number o cert fault = ⊥

-- ---- all certificates

-- this holds of the obligation and of the certificate of a number
pub record AtNumber (d : Design) (certs : List Cert) (number : ℕ) (P : Obligation → Cert → Type 0) : Type 0 where
  pub obligation : Obligation
  pub cert : Cert
  pub owed : slice_get (all_obligations d) number ≡ Some obligation
  pub given : slice_get certs number ≡ Some cert
  pub is : P obligation cert

-- this holds of a number, with the obligation and the certificate there, and all certificates before are accepted
pub record FirstIs (d : Design) (certs : List Cert) (P : ℕ → Obligation → Cert → Type 0) : Type 0 where
  pub number : ℕ
  pub here : AtNumber d certs number (P number)
  pub before : AllZip (IsAccepted d) (take number (all_obligations d)) (take number certs)

-- no tree is too large, and there are as many certificates as obligations
pub record AreAsMany (d : Design) (certs : List Cert) : Type 0 where
  pub few : AreFew (all_counts d)
  pub as_many : length certs ≡ length (all_obligations d)

-- no tree is too large, and the numbers differ, which are told as these
pub record AreNotAsMany (d : Design) (certs : List Cert) (found wanted : ℕ) : Type 0 where
  pub few : AreFew (all_counts d)
  pub differ : length certs ≢ length (all_obligations d)
  pub found_ : found ≡ reported (length certs)
  pub wanted_ : wanted ≡ reported (length (all_obligations d))

-- all trees first, then the numbers, then the certificates in order
abbrev pub Tells : Design → List Cert → CertFault → Type 0
Tells d certs NotJson = ⊥
Tells d certs (Shape pointer) = ⊥
Tells d certs (Paths leaves) = TellsFirst (all_counts d) (tree.Paths leaves)
Tells d certs (Count found wanted) = AreNotAsMany d certs found wanted
Tells d certs (Refused n) = AreAsMany d certs × FirstIs d certs (λ number o cert. IsRefused d o cert × (n ≡ reported number))
Tells d certs (Big count) = AreAsMany d certs × FirstIs d certs (λ number o cert. IsBig d o.level o.formula cert count)
Tells d certs NoMemory = Unit {0}
