-- Cited by the laws on gates and on clauses: under which values of literals clauses hold.
use Rattle.std.specs.Prelude.{◌≡◌, ◌≢◌, ℤ, pos, Bool, not, List}
use Rattle.std.specs.List.{list_all, list_any}
use Rattle.cnf_core.specs.Literals.{opposite}

-- opposite literals have opposite values; 0 is no literal
abbrev pub IsValuation : (ℤ → Bool) → Type 0
IsValuation v = (l : ℤ) → l ≢ pos 0 → v (opposite l) ≡ not (v l)

-- each clause has a true literal
abbrev pub all_hold : (ℤ → Bool) → List (List ℤ) → Bool
all_hold v clauses = list_all (λ c. list_any v c) clauses
