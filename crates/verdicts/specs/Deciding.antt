-- Cited by the clause of `decide`: when each answer comes.
use Rattle.std.specs.Prelude.{ℕ, List}
use Rattle.cocoon_num.specs.Tree.{Design}
use Rattle.bv_terms.specs.Arenas.{term_at}
use Rattle.bv_terms.specs.TermTrees.{Term}
use Rattle.bv_terms.specs.declared.node.Node.{Node}
use Rattle.query_laws.specs.Rounds.{IsWithin, of_goal}
use Rattle.cnf_core.specs.declared.certificates.Cert.{Cert}
use Rattle.discharge.specs.Answering.{IsSpentOn}
use Rattle.obligation_gen.specs.Owed.{NeverFailsHere}
use Rattle.obligation_gen.specs.declared.obligation.Kind.TheVariants.{Contained, Bounded}
use Rattle.obligation_gen.specs.declared.obligation.Obligation.{Obligation}
use Rattle.query_laws.specs.Certified.{HasTooMany, IsCert}
use Rattle.query_laws.specs.Queries.{query}
use Rattle.rounds.specs.Outcomes.{IsAsked, IsRefutedWithin, IsSpentAfter}
use Rattle.verdicts.specs.Failing.{IsFailureOf}
use Rattle.verdicts.specs.declared.deciding.Verdict.{Verdict}
use Rattle.verdicts.specs.declared.deciding.Verdict.TheVariants.{Holds, Refuted, Over, SpentConflicts, SpentRounds, Big}

-- the formula of the obligation
abbrev pub formula_in : List Node → Obligation → Term
formula_in nodes o = term_at nodes o.formula

-- the certificate shows it, with instances that so many rounds add, and the leaf never fails
pub record HoldsBy (d : Design) (nodes : List Node) (o : Obligation) (conflicts rounds : ℕ) (cert : Cert) : Type 0 where
  pub within : IsWithin d o.level (formula_in nodes o) rounds (of_goal cert.instances)
  pub certified : IsCert d o.level (formula_in nodes o) cert
  pub refuted : IsRefutedWithin (query d o.level (formula_in nodes o) cert.instances) conflicts cert.log
  pub never_fails : NeverFailsHere d nodes o

abbrev pub Decides : Design → List Node → Obligation → (conflicts rounds : ℕ) → Verdict → Type 0
Decides d nodes o conflicts rounds (Holds cert) = HoldsBy d nodes o conflicts rounds cert
Decides d nodes o conflicts rounds (Refuted failure) = IsFailureOf d nodes o Contained failure
Decides d nodes o conflicts rounds (Over failure) = IsFailureOf d nodes o Bounded failure
Decides d nodes o conflicts rounds (SpentConflicts q vars log) =
    IsAsked d o.level (formula_in nodes o) rounds q (λ goal. IsSpentOn goal conflicts vars log)
Decides d nodes o conflicts rounds (SpentRounds instances) =
    IsSpentAfter d o.level (formula_in nodes o) rounds instances
Decides d nodes o conflicts rounds (Big q count) =
    IsAsked d o.level (formula_in nodes o) rounds q (λ goal. HasTooMany goal count)
