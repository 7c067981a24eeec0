-- Cited by private clauses: what one query comes to, one candidate, and one round.
use Rattle.std.specs.Prelude.{◌≡◌, ℕ, List, [], ◌∷◌, ◌++◌, length, map, take}
use Rattle.bv_terms.specs.TermTrees.{IsTerm, Term}
use Rattle.query_laws.specs.Rounds.{Progress}
use Rattle.candidates.specs.Assigned.{row_value}
use Rattle.candidates.specs.Flat as flat
use Rattle.candidates.specs.Flat.{IsCandidateOf, MakesFormulaTrue}
use Rattle.cnf_core.specs.declared.certificates.Instance.{Instance}
use Rattle.cnf_core.specs.declared.log.Log.{Log}
use Rattle.cnf_core.specs.Satisfying.{makes_true}
use Rattle.cocoon_num.specs.BitsOf.{value_of}
use Rattle.cocoon_num.specs.Tree.{Design}
use Rattle.discharge.specs.Answering.{AnswersTo, IsSpentOn}
use Rattle.obligation_laws.specs.Failing.{NeverTrue}
use Rattle.query_laws.specs.Certified.{HasTooMany, IsSatisfiable}
use Rattle.query_laws.specs.OwnNames.{inputs_of}
use Rattle.query_laws.specs.Queries.{instance_term, query}
use Rattle.runtime_defs.specs.Fitting.{FitsDesign}
use Rattle.bit_blast.specs.Blasting.{InputRow}
use Rattle.bit_blast.specs.declared.blasting.BlastFault.{BlastFault}
use Rattle.bit_blast.specs.declared.blasting.BlastFault.TheVariants.{Clauses, NoMemory}
use Rattle.cdcl.specs.declared.answer.Answer.{Answer}
use Rattle.cdcl.specs.declared.answer.Answer.TheVariants as answer
use Rattle.cdcl.specs.declared.answer.Answer.TheVariants.{Unsat}
use Rattle.queries.specs.declared.asking.OwnGoal.{OwnGoal}
use Rattle.bv_terms.specs.WithRows.{Tables}
use Rattle.rounds.specs.Outcomes.{IsRefutedWithin, Tells}
use Rattle.rounds.specs.declared.outcome.Outcome.{Outcome}
use Rattle.rounds.specs.declared.outcome.Witness.{Witness}
use Rattle.rounds.specs.declared.outcome.Outcome.TheVariants as outcome
use Rattle.rounds.specs.declared.asking.Satisfied.{Satisfied as Solved}
use Rattle.rounds.specs.declared.asking.Searched.{Searched}
use Rattle.rounds.specs.declared.asking.Searched.TheVariants.{Refuted, Satisfied, Spent, Big}
use Rattle.rounds.specs.declared.judging.Judged.{Judged}
use Rattle.rounds.specs.declared.searching.Round.{Round}
use Rattle.rounds.specs.declared.searching.Round.TheVariants.{Ended, Broken}

-- ---- one query

-- the query is refuted within so many conflicts, so the formula is never true
pub record IsRefuted (d : Design) (level : ℕ) (formula : Term) (instances : List Instance) (conflicts : ℕ) (log : Log) : Type 0 where
  pub refuted : IsRefutedWithin (query d level formula instances) conflicts log
  pub never_true : NeverTrue level d formula

-- an assignment gives the inputs numbers at which the query is true
pub record IsSolved (d : Design) (level : ℕ) (formula : Term) (instances : List Instance) (m : Solved) : Type 0 where
  pub satisfied : flat.IsSatisfied d m.own.terms m.own.applied m.inputs m.assignment level formula instances
  pub inputs : m.own.inputs ≡ inputs_of formula

abbrev pub Says : Design → (level : ℕ) → (formula : Term) → List Instance → (conflicts : ℕ) → Searched → Type 0
Says d level formula instances conflicts (Refuted log) = IsRefuted d level formula instances conflicts log
Says d level formula instances conflicts (Satisfied m) =
    IsSolved d level formula instances m × IsSatisfiable (query d level formula instances)
Says d level formula instances conflicts (Spent vars log) = IsSpentOn (query d level formula instances) conflicts vars log
Says d level formula instances conflicts (Big count) = HasTooMany (query d level formula instances) count

abbrev pub Refuses : BlastFault → Searched → Type 0
Refuses (Clauses count) s = s ≡ Big count
Refuses NoMemory s = ⊥

-- what the answer of the search over so many variables says
abbrev pub IsSearched : OwnGoal → List InputRow → (vars : ℕ) → Answer → Searched → Type 0
IsSearched own inputs vars (answer.Satisfied x) s = s ≡ Satisfied (record { own = own; inputs = inputs; assignment = x })
IsSearched own inputs vars (Unsat log) s = s ≡ Refuted log
IsSearched own inputs vars (answer.Spent log) s = s ≡ Spent vars log

-- ---- one candidate

-- the definitions are a candidate of what was asked, under which the formula is true
pub record IsCandidate (d : Design) (m : Solved) (defs : Tables) : Type 0 where
  pub fits : FitsDesign d defs
  pub candidate : IsCandidateOf d m.own.terms m.own.applied m.inputs m.assignment defs
  pub formula_ : MakesFormulaTrue d m.own.terms m.own.applied m.inputs m.assignment defs

-- the definitions are a candidate, and this is said of the assumptions under them
pub record IsJudged (d : Design) (level : ℕ) (m : Solved) (conflicts : ℕ) (j : Judged) : Type 0 where
  pub of : IsCandidate d m j.defs
  pub met : AnswersTo d level j.defs conflicts j.met

-- the instance is of this assumption at these values, and has a term
pub record IsInstance (d : Design) (number : ℕ) (values : List ℕ) (i : Instance) : Type 0 where
  pub of : i ≡ record { number = number; values = values }
  pub term : IsTerm (instance_term d i)

-- it has these definitions and instances, and the values that the assignment gives the inputs of the formula, which are the first
-- ones
pub record IsOf (m : Solved) (tables : Tables) (instances : List Instance) (f : Witness) : Type 0 where
  pub defs : f.defs ≡ tables
  pub instances_ : f.instances ≡ instances
  pub inputs : f.inputs ≡ m.own.inputs
  pub values : map value_of f.values ≡ map (row_value (makes_true m.assignment)) (take (length m.own.inputs) m.inputs)

abbrev pub IsFoundBy : Solved → Tables → List Instance → Outcome → Type 0
IsFoundBy m tables instances (outcome.Found f) = IsOf m tables instances f
IsFoundBy m tables instances o = ⊥

-- ---- one round

-- with one more instance there is progress
pub record IsBroken (d : Design) (level : ℕ) (formula : Term) (given instances : List Instance) (i : Instance) : Type 0 where
  pub same : instances ≡ given
  pub progress : Progress d level formula (given ++ i ∷ [])

abbrev pub ComesTo : Design → (level : ℕ) → (formula : Term) → (conflicts rounds : ℕ) → List Instance → Round → Type 0
ComesTo d level formula conflicts rounds given (Ended outcome) = Tells d level formula conflicts rounds outcome
ComesTo d level formula conflicts rounds given (Broken instances i values) = IsBroken d level formula given instances.items i

-- with the instances that were given the query can be true, if a candidate breaks one more
abbrev pub CanBeTrue : Design → (level : ℕ) → (formula : Term) → List Instance → Round → Type 0
CanBeTrue d level formula given (Ended outcome) = Unit {0}
CanBeTrue d level formula given (Broken instances i values) = IsSatisfiable (query d level formula given)
