-- Cited by the clause of `satisfies`, by the law on logs, and by the clauses of what searches for an assignment.
use Rattle.std.specs.Prelude.{◌≡◌, ◌-◌, ◌^◌, ◌<◌, ℤ, pos, negsuc, Bool, false, not, IsTrue, length, slice_index_or}
use Rattle.std.specs.List.{All, list_any}
use Rattle.cnf_core.specs.Clauses.{literals}
use Rattle.cnf_core.specs.Literals.{Names}
use Rattle.cnf_core.specs.declared.clauses.Assignment.{Assignment}
use Rattle.cnf_core.specs.declared.clauses.Clause.{Clause}
use Rattle.cnf_core.specs.declared.clauses.Cnf.{Cnf}

-- the literal is true: n where the n-th value is, -n where it is not
abbrev pub makes_true : Assignment → ℤ → Bool
makes_true a (pos n) = slice_index_or a.values (n - 1) false
makes_true a (negsuc n) = not (slice_index_or a.values n false)

abbrev pub satisfies_clause : Assignment → Clause → Bool
satisfies_clause a c = list_any (makes_true a) (literals c)

-- every clause has a true literal
abbrev pub Satisfies : Assignment → Cnf → Type 0
Satisfies a cnf = All (λ c. IsTrue (satisfies_clause a c)) cnf.clauses

-- the condition of every call on clauses: each literal names a variable from 1 to `vars`, and `vars` is below 2^31
abbrev pub WellNamed : Cnf → Type 0
WellNamed cnf = (cnf.vars < 2 ^ 31) × All (λ c. All (Names cnf.vars) (literals c)) cnf.clauses

abbrev pub HasAllValues : Cnf → Assignment → Type 0
HasAllValues cnf a = length a.values ≡ cnf.vars
