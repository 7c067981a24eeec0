-- What a budget is spent on: assumptions and obligations by their numbers, and definitions as their text. Cited by the
-- definition of the file of a spent budget and by the clauses of what writes it. It follows "Spent budgets" in docs/FORMATS.md.
use Rattle.std.specs.Prelude.{ℕ, List}
use Rattle.cnf_core.specs.Certificates.{Instance, Step}

pub data Spent : Type 0 where
  -- conflicts, on the assumption of this number under the definitions that were given
  given : (number : ℕ) (defs : List ℕ) (log : List Step) → Spent
  -- conflicts, on an obligation with these instances
  asked : (obligation : ℕ) (instances : List Instance) (log : List Step) → Spent
  -- conflicts, on the assumption of this number under a candidate: definitions that an assignment gave, for an obligation with
  -- these instances
  tried : (number : ℕ) (defs : List ℕ) (obligation : ℕ) (instances : List Instance) (log : List Step) → Spent
  -- rounds, on an obligation: each gave one of these instances
  rounds : (obligation : ℕ) (instances : List Instance) → Spent
