-- Cited by the clauses of `recheck`, of the laws and of code that makes certificates: what certificates show of a design. It
-- follows the section "Queries of obligations" of docs/CLAUSES.md.
use Rattle.std.specs.Prelude.{ℕ, List, map}
use Rattle.std.specs.List.{AllZip}
use Rattle.cocoon_num.specs.Tree.{Design}
use Rattle.cnf_core.specs.CertsOf.{cert_of}
use Rattle.cnf_core.specs.declared.certificates.Cert.{Cert}
use Rattle.cert_text.specs.CertsJson.{certs_data}
use Rattle.json_forms.specs.Values.{IsJson}
use Rattle.obligation_laws.specs.Obligations.{Obligation, all_obligations}
use Rattle.query_laws.specs.Certified.{IsCert}

-- the instances fit the levels up to the obligation's, and the log derives the empty clause from the clauses of its query
-- with them
abbrev pub Shows : Design → Obligation → Cert → Type 0
Shows d o cert = IsCert d o.level o.formula cert

-- there is one certificate for each obligation of the design, in order, and it shows it
abbrev pub CertsShow : Design → List Cert → Type 0
CertsShow d certs = AllZip (Shows d) (all_obligations d) certs

-- the bytes are a file of certificates that show what the design owes
pub record Certifies (d : Design) (bytes : List ℕ) : Type 0 where
  pub certs : List Cert
  pub is : IsJson bytes (certs_data (map cert_of certs))
  pub shows : CertsShow d certs
