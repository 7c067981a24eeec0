-- Cited by the clause of `search`: when each answer comes.
use Rattle.std.specs.Prelude.{◌≡◌, ℕ, List, length}
use Rattle.bv_terms.specs.TermTrees.{Term}
use Rattle.query_laws.specs.Candidates.{IsCandidate, MakeTrue}
use Rattle.query_laws.specs.Rounds.{Asked, of_goal, of_assumption, IsAllowed, IsWithin, Progress}
use Rattle.cdcl.specs.Answering.{Refutation}
use Rattle.cnf_core.specs.declared.certificates.Cert.{Cert}
use Rattle.cnf_core.specs.declared.certificates.Instance.{Instance}
use Rattle.cnf_core.specs.declared.clauses.Cnf.{Cnf}
use Rattle.cnf_core.specs.declared.log.Log.{Log}
use Rattle.cocoon_num.specs.Tree.{Design}
use Rattle.discharge.specs.Answering.{IsSpentOn}
use Rattle.discharge.specs.Meeting.{OfTables}
use Rattle.discharge.specs.Queries.{assumption_query}
use Rattle.fun_instances.specs.Taking.{OfAssumption}
use Rattle.bv_terms.specs.Values.{values_of}
use Rattle.obligation_laws.specs.Failing.{NeverTrue}
use Rattle.query_laws.specs.Certified.{HasClauses, HasTooMany, IsCert, IsSatisfiable}
use Rattle.query_laws.specs.OwnNames.{inputs_of}
use Rattle.query_laws.specs.Queries.{query}
use Rattle.refinement.specs.Assumptions.{Meets}
use Rattle.rounds.specs.declared.outcome.Witness.{Witness}
use Rattle.rounds.specs.declared.outcome.Outcome.{Outcome}
use Rattle.rounds.specs.declared.outcome.Outcome.TheVariants.{Holds, SpentConflicts, SpentRounds, Big}
use Rattle.rounds.specs.declared.outcome.Outcome.TheVariants as outcome
use Rattle.rounds.specs.declared.outcome.Query.{Query}
use Rattle.rounds.specs.declared.outcome.Query.TheVariants.{Goal, Assumption}

-- ---- queries

abbrev pub asked_of : Query → Asked
asked_of (Goal instances) = of_goal instances
asked_of (Assumption i tables instances) = of_assumption i tables instances

-- this holds of the term that is asked
abbrev pub OfQuery : Design → (level : ℕ) → (formula : Term) → Query → (Term → Type 0) → Type 0
OfQuery d level formula (Goal instances) P = P (query d level formula instances)
OfQuery d level formula (Assumption i tables instances) P = OfAssumption d i (λ a. P (assumption_query d a tables))

-- so many rounds lead to the query, and this holds of its term
pub record IsAsked (d : Design) (level : ℕ) (formula : Term) (rounds : ℕ) (q : Query) (P : Term → Type 0) : Type 0 where
  pub allowed : IsAllowed d level formula rounds (asked_of q)
  pub said : OfQuery d level formula q P

-- ---- answers

-- the log refutes the clauses of the goal in so many steps at most, each of which but the last brings a new clause
pub record IsRefutedWithin (goal : Term) (conflicts : ℕ) (log : Log) : Type 0 where
  pub cnf : Cnf
  pub clauses : HasClauses goal cnf
  pub refutation : Refutation cnf conflicts log

-- the certificate shows that the formula is never true, with instances that so many rounds add
pub record ShowsNeverTrue (d : Design) (level : ℕ) (formula : Term) (conflicts rounds : ℕ) (cert : Cert) : Type 0 where
  pub within : IsWithin d level formula rounds (of_goal cert.instances)
  pub certified : IsCert d level formula cert
  pub refuted : IsRefutedWithin (query d level formula cert.instances) conflicts cert.log
  pub never_true : NeverTrue level d formula

-- The definitions are a candidate and meet the assumptions. Under them the formula is true at the values of its inputs, one of
-- each.
pub record IsWitness (d : Design) (level : ℕ) (formula : Term) (rounds : ℕ) (w : Witness) : Type 0 where
  pub within : IsWithin d level formula rounds (of_goal w.instances)
  pub candidate : IsCandidate d level formula w.instances w.defs
  pub met : OfTables d w.defs (Meets level d)
  pub inputs : w.inputs ≡ inputs_of formula
  pub values : length w.values ≡ length w.inputs
  pub formula_ : MakeTrue w.defs (values_of w.inputs w.values) formula

-- as many instances as rounds, with which the query can still be true
pub record IsSpentAfter (d : Design) (level : ℕ) (formula : Term) (rounds : ℕ) (instances : List Instance) : Type 0 where
  pub all : length instances ≡ rounds
  pub progress : Progress d level formula instances
  pub satisfiable : IsSatisfiable (query d level formula instances)

abbrev pub Tells : Design → (level : ℕ) → (formula : Term) → (conflicts rounds : ℕ) → Outcome → Type 0
Tells d level formula conflicts rounds (Holds cert) = ShowsNeverTrue d level formula conflicts rounds cert
Tells d level formula conflicts rounds (outcome.Found witness) = IsWitness d level formula rounds witness
Tells d level formula conflicts rounds (SpentConflicts q vars log) =
    IsAsked d level formula rounds q (λ goal. IsSpentOn goal conflicts vars log)
Tells d level formula conflicts rounds (SpentRounds instances) = IsSpentAfter d level formula rounds instances
Tells d level formula conflicts rounds (Big q count) = IsAsked d level formula rounds q (λ goal. HasTooMany goal count)
