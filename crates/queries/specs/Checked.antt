-- Cited by the clauses of `check_cert`: when each answer comes.
use Rattle.std.specs.Prelude.{ℕ}
use Rattle.cocoon_num.specs.Tree.{Design}
use Rattle.bv_terms.specs.TermTrees.{Term}
use Rattle.cnf_core.specs.declared.certificates.Cert.{Cert}
use Rattle.query_laws.specs.Certified.{AllFit, HasTooMany}
use Rattle.query_laws.specs.Queries.{query}
use Rattle.queries.specs.declared.checking.RecheckFault.{RecheckFault}
use Rattle.queries.specs.declared.checking.RecheckFault.TheVariants.{Big, NoMemory}

-- the instances fit, and the query with them has so many clauses, which are too many
pub record IsBig (d : Design) (level : ℕ) (formula : Term) (cert : Cert) (count : ℕ) : Type 0 where
  pub fit : AllFit d level cert.instances
  pub clauses : HasTooMany (query d level formula cert.instances) count

abbrev pub Tells : Design → (level : ℕ) → (formula : Term) → Cert → RecheckFault → Type 0
Tells d level formula cert (Big count) = IsBig d level formula cert count
Tells d level formula cert NoMemory = Unit {0}
