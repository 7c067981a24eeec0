-- Cited by the clauses of the laws of this crate and by those of code that decides and checks: what a log shows of a goal, and what
-- a certificate shows of a formula.
use Rattle.std.specs.Prelude.{◌≡◌, ℕ, ◌<◌, List}
use Rattle.std.specs.List.{AllByRecursion}
use Rattle.bit_blast.specs.Blasting.{IsClauses, most_clauses}
use Rattle.bit_blast.specs.Clauses.{count_of}
use Rattle.bv_terms.specs.TermTrees.{Term}
use Rattle.cnf_core.specs.declared.certificates.Cert.{Cert}
use Rattle.cnf_core.specs.declared.certificates.Instance.{Instance}
use Rattle.cnf_core.specs.Deriving.{Derives}
use Rattle.cnf_core.specs.Satisfying.{HasAllValues, Satisfies, WellNamed}
use Rattle.cnf_core.specs.declared.clauses.Assignment.{Assignment}
use Rattle.cnf_core.specs.declared.clauses.Cnf.{Cnf}
use Rattle.cnf_core.specs.declared.log.Log.{Log}
use Rattle.cocoon_num.specs.Tree.{Design}
use Rattle.query_laws.specs.Queries.{Fits, query}

-- these are the clauses of the goal
pub record HasClauses (goal : Term) (cnf : Cnf) : Type 0 where
  pub are : IsClauses cnf goal
  pub named : WellNamed cnf

-- the log derives the empty clause from the clauses of the goal
pub record DerivesFrom (goal : Term) (log : Log) : Type 0 where
  pub cnf : Cnf
  pub clauses : HasClauses goal cnf
  pub derives : Derives cnf log

-- an assignment of all variables satisfies the clauses of the goal
pub record IsSatisfiable (goal : Term) : Type 0 where
  pub cnf : Cnf
  pub clauses : HasClauses goal cnf
  pub assignment : Assignment
  pub values : HasAllValues cnf assignment
  pub satisfies : Satisfies assignment cnf

-- the goal has so many clauses, which are too many
pub record HasTooMany (goal : Term) (count : ℕ) : Type 0 where
  pub count_is : count ≡ count_of goal
  pub too_many : most_clauses < count

abbrev pub AllFit : Design → (level : ℕ) → List Instance → Type 0
AllFit d level instances = AllByRecursion (Fits d level) instances

-- the instances fit, and the log refutes the query with them
pub record IsCert (d : Design) (level : ℕ) (formula : Term) (cert : Cert) : Type 0 where
  pub fit : AllFit d level cert.instances
  pub derives : DerivesFrom (query d level formula cert.instances) cert.log
