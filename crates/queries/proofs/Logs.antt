-- Logs that are checked.
use Rattle.std.proofs.Common.{◌↔◌, ℕ, ◌++◌, List, map, take, Bool, IsTrue, sym, subst, ◌∙◌}
use Rattle.std.specs.Prelude.{ℤ}
use Rattle.bit_blast.specs.Blasting.{IsClauses}
use Rattle.bv_terms.specs.Arenas.{term_at}
use Rattle.bv_terms.specs.TermTrees.{Term}
use Rattle.cnf_core.specs.declared.certificates.Cert.{Cert}
use Rattle.cnf_core.specs.Clauses.{literals}
use Rattle.cnf_core.specs.Deriving.{Derives, Follows}
use Rattle.cnf_core.specs.Satisfying.{WellNamed}
use Rattle.cnf_core.specs.declared.clauses.Cnf.{Cnf}
use Rattle.cnf_core.specs.declared.log.Log.{Log}
use Rattle.cnf_core.specs.declared.log.Step.{Step}
use Rattle.cocoon_num.specs.Tree.{Design}
use Rattle.query_laws.specs.Certified.{AllFit, IsCert}
use Rattle.query_laws.specs.Queries.{query}
use Rattle.queries.specs.Asked.{IsQuery}
use Rattle.queries.specs.declared.asking.OwnGoal.{OwnGoal}

-- what is derived does not depend on how the list is held
pub same_derived : (goal : Term) (a b : Cnf) → IsClauses a goal → IsClauses b goal → (log : Log) → Derives a log → Derives b log
same_derived goal a b p q log h = (
  λ k l.
      let s = h.0 k l in
      let rest = map (λ (x : Step). literals x.clause) (take k log.steps) in (
        s.0,
        s.1,
        subst (λ (cs : List (List ℤ)). Follows b.vars (cs ++ rest) (literals s.0.clause) s.0.hints) (p.clauses_are ∙ sym q.clauses_are)
            (subst (λ v. Follows v (map literals a.clauses ++ rest) (literals s.0.clause) s.0.hints) (p.vars_are ∙ sym q.vars_are) s.2),
      ),
  h.1,
)

module _ (d : Design) (level : ℕ) (formula : Term) (cert : Cert) (own : OwnGoal) (is : IsQuery d level formula cert.instances own) (cnf : Cnf) (clauses : IsClauses cnf (term_at own.terms own.goal)) (named : WellNamed cnf) where
  of_query : IsClauses cnf (query d level formula cert.instances)
  of_query = subst (IsClauses cnf) is.term clauses

  pub checked : AllFit d level cert.instances → (answer : Bool) → (IsTrue answer ↔ Derives cnf cert.log) → IsTrue answer ↔ IsCert d level formula cert
  checked fit answer exact = (
    λ t. record { fit = fit; derives = record { cnf = cnf; clauses = record { are = of_query; named = named }; derives = exact.0 t } },
    λ h. exact.1 (same_derived (query d level formula cert.instances) h.derives.cnf cnf h.derives.clauses.are of_query cert.log h.derives.derives),
  )
