-- Cited by the clause of `solve`: with what each answer comes.
use Rattle.std.specs.Prelude.{ℕ, ◌+◌, ◌<◌, ◌≤◌, length}
use Rattle.cnf_core.specs.Deriving.{Derives}
use Rattle.cnf_core.specs.Licensing.{BringsNew, Licensed}
use Rattle.cnf_core.specs.Satisfying.{HasAllValues, Satisfies}
use Rattle.cnf_core.specs.declared.clauses.Cnf.{Cnf}
use Rattle.cnf_core.specs.declared.log.Log.{Log}
use Rattle.cdcl.specs.declared.answer.Answer.{Answer}
use Rattle.cdcl.specs.declared.answer.Answer.TheVariants.{Satisfied, Spent, Unsat}

-- it derives the empty clause, in so many steps at most, and each but the last brings a new clause
pub record Refutation (cnf : Cnf) (conflicts : ℕ) (log : Log) : Type 0 where
  pub within : length log.steps ≤ conflicts
  pub derives : Derives cnf log
  pub new : (k : ℕ) → k + 1 < length log.steps → BringsNew cnf log.steps k

abbrev pub Answers : Cnf → (conflicts : ℕ) → Answer → Type 0
Answers cnf conflicts (Satisfied assignment) = HasAllValues cnf assignment × Satisfies assignment cnf
Answers cnf conflicts (Unsat log) = Refutation cnf conflicts log
Answers cnf conflicts (Spent log) = Licensed cnf log conflicts
