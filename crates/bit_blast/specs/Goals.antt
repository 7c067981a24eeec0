-- Cited by the clauses of `blast` and by the laws on clauses: which terms can be a goal.
use Rattle.std.specs.Prelude.{◌≡◌}
use Rattle.bv_terms.specs.TermTrees.{Term, constant, input, apply, not_, binary, slice, pick, width, IsTerm}

-- the term has no function in it
abbrev pub IsUnapplied : Term → Type 0
IsUnapplied (constant w n) = Unit {0}
IsUnapplied (input i w) = Unit {0}
IsUnapplied (apply f args w) = ⊥
IsUnapplied (not_ a) = IsUnapplied a
IsUnapplied (binary op a b) = IsUnapplied a × IsUnapplied b
IsUnapplied (slice a high low) = IsUnapplied a
IsUnapplied (pick c a b) = IsUnapplied c × IsUnapplied a × IsUnapplied b

-- what can be a goal
pub record IsGoal (goal : Term) : Type 0 where
  pub term : IsTerm goal
  pub truth : width goal ≡ 1
  pub unapplied : IsUnapplied goal
