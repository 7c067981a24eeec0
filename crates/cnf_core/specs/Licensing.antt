-- What shows that a search has spent its steps on clauses that were new. Cited by the clauses of what checks and of what
-- makes logs.
use Rattle.std.specs.Prelude.{◌≡◌, ◌≢◌, ℕ, ◌<◌, ℤ, Bool, IsFalse, List, [], length, slice_get, take, Some}
use Rattle.std.specs.List.{All}
use Rattle.cocoon_num.specs.Lists.{each}
use Rattle.cnf_core.specs.Deriving.{EachDerived, known}
use Rattle.cnf_core.specs.Clauses.{literals}
use Rattle.cnf_core.specs.Literals.{has_literal}
use Rattle.cnf_core.specs.declared.clauses.Cnf.{Cnf}
use Rattle.cnf_core.specs.declared.log.Log.{Log}
use Rattle.cnf_core.specs.declared.log.Step.{Step}

-- the clause has all literals of the other, which subsumes it
abbrev pub subsumed_by : (clause other : List ℤ) → Bool
subsumed_by clause other = each (has_literal clause) other

-- the clause is not empty, and has not all literals of a clause that is known
abbrev pub IsNew : (clauses : List (List ℤ)) → (clause : List ℤ) → Type 0
IsNew clauses clause = (clause ≢ []) × All (λ other. IsFalse (subsumed_by clause other)) clauses

-- step k brings a new clause
abbrev pub BringsNew : Cnf → List Step → (k : ℕ) → Type 0
BringsNew cnf steps k = (step : Step) × (slice_get steps k ≡ Some step) × IsNew (known cnf (take k steps)) (literals step.clause)

-- so many steps, each derived, and each brings a new clause
pub record Licensed (cnf : Cnf) (log : Log) (count : ℕ) : Type 0 where
  pub exactly : length log.steps ≡ count
  pub derived : EachDerived cnf log.steps
  pub new : (k : ℕ) → k < count → BringsNew cnf log.steps k
