-- Certificates that show the obligations of the code show those of the design.
use Rattle.std.proofs.Common.{List, subst}
use Rattle.std.specs.List.{All}
use Rattle.cocoon_num.specs.Tree.{Design}
use Rattle.bv_terms.specs.Arenas.{term_at}
use Rattle.bv_terms.specs.declared.node.Node.{Node}
use Rattle.cert_text.specs.Certifying.{CertsShow, Shows}
use Rattle.cert_text.proofs.SideBySide.{before_it, beside, by_place, through}
use Rattle.cnf_core.specs.declared.certificates.Cert.{Cert}
use Rattle.obligation_gen.specs.Shown.{ShowsObligation, ShowsObligations}
use Rattle.obligation_gen.specs.declared.obligation.Obligation.{Obligation}
use Rattle.obligation_laws.specs.Failing.{NeverFails}
use Rattle.obligation_laws.specs.Obligations as laws
use Rattle.obligation_laws.specs.Obligations.{all_obligations}
use Rattle.query_laws.specs.Certified.{IsCert}
use Rattle.cert_text.specs.Keeping.{AreShown, IsShown}

module _ (d : Design) (nodes : List Node) (os : List Obligation) (certs : List Cert) (owed : ShowsObligations d nodes os (all_obligations d)) (shown : AreShown d nodes os certs) where
  one : (o : Obligation) (p : laws.Obligation) (c : Cert) → ShowsObligation d nodes o p → IsShown d nodes o c → Shows d p c
  one o p c s h = subst (λ t. IsCert d p.level t c) s.formula_.term (subst (λ l. IsCert d l (term_at nodes o.formula) c) s.level_ h.certified)

  pub show : CertsShow d certs
  show = through (ShowsObligation d nodes) (IsShown d nodes) (Shows d) one os (all_obligations d) certs owed shown

  pub holds : All (NeverFails d) (all_obligations d)
  holds = by_place (NeverFails d) (all_obligations d) (λ n p at.
      let found = before_it (ShowsObligation d nodes) os (all_obligations d) owed n p at in
      let its = beside (IsShown d nodes) os certs shown n found.0 found.1 in
      its.2.never_fails n p at found.2)
