-- Cited by the clauses of the law `shown_obligations_are_certified`: what the certificates of searches show.
use Rattle.std.specs.Prelude.{◌≡◌, ℕ, List, Some, slice_get}
use Rattle.std.specs.List.{AllZip}
use Rattle.cocoon_num.specs.Tree.{Design}
use Rattle.bv_terms.specs.Arenas.{term_at}
use Rattle.bv_terms.specs.declared.node.Node.{Node}
use Rattle.cnf_core.specs.declared.certificates.Cert.{Cert}
use Rattle.obligation_gen.specs.Shown.{ShowsObligation}
use Rattle.obligation_gen.specs.declared.obligation.Obligation.{Obligation}
use Rattle.obligation_laws.specs.Failing.{NeverFails}
use Rattle.obligation_laws.specs.Obligations as laws
use Rattle.obligation_laws.specs.Obligations.{all_obligations}
use Rattle.query_laws.specs.Certified.{IsCert}

-- the certificate shows the obligation of the code, and its leaf never fails
pub record IsShown (d : Design) (nodes : List Node) (o : Obligation) (cert : Cert) : Type 0 where
  pub certified : IsCert d o.level (term_at nodes o.formula) cert
  pub never_fails : (n : ℕ) (owed : laws.Obligation) → slice_get (all_obligations d) n ≡ Some owed
      → ShowsObligation d nodes o owed → NeverFails d owed

-- one for each, in order
abbrev pub AreShown : Design → List Node → List Obligation → List Cert → Type 0
AreShown d nodes obligations certs = AllZip (IsShown d nodes) obligations certs
