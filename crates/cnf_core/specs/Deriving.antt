-- Reverse unit propagation with hints, as in LRAT proofs. Cited by the law on logs, and by the clauses of what checks and
-- of what makes logs. It follows the section "Logs" of docs/FORMATS.md.
use Rattle.std.specs.Prelude.{◌≡◌, ℕ, ◌-◌, ◌<◌, ◌⊎◌, ℤ, Bool, not, ◌&&◌, ◌||◌, IsTrue, List, [], ◌∷◌, ◌++◌, map, length, take, slice_get, Some}
use Rattle.std.specs.List.{All}
use Rattle.cocoon_num.specs.Lists.{each, no_repeats}
use Rattle.cnf_core.specs.Clauses.{literals}
use Rattle.cnf_core.specs.Literals.{Names, has_literal, opposite, same, variable}
use Rattle.cnf_core.specs.declared.clauses.Cnf.{Cnf}
use Rattle.cnf_core.specs.declared.log.Log.{Log}
use Rattle.cnf_core.specs.declared.log.Step.{Step}

-- ---- clauses under the literals that are true

abbrev pub is_false : (trues : List ℤ) → ℤ → Bool
is_false trues l = has_literal trues (opposite l)

abbrev pub has_no_value : (trues : List ℤ) → ℤ → Bool
has_no_value trues l = not (has_literal trues l) && not (is_false trues l)

-- all literals are false
abbrev pub is_conflict : (trues clause : List ℤ) → Bool
is_conflict trues clause = each (is_false trues) clause

-- one literal has no value yet and all others are false, so it has to be true
abbrev pub forces : (trues clause : List ℤ) → ℤ → Bool
forces trues clause l = has_literal clause l && (has_no_value trues l && each (λ m. same l m || is_false trues m) clause)

-- ---- steps

-- each hinted clause makes one more literal true, and the last one is the conflict
abbrev pub Refutes : (known : List (List ℤ)) → (trues : List ℤ) → (hints : List ℕ) → Type 0
Refutes known trues [] = ⊥
Refutes known trues (hint ∷ hints) = (clause : List ℤ) × (slice_get known hint ≡ Some clause)
    × (((hints ≡ []) × IsTrue (is_conflict trues clause))
    ⊎ ((l : ℤ) × IsTrue (forces trues clause l) × Refutes known (trues ++ l ∷ []) hints))

-- the clauses that hints may name: those given, then those of the steps so far
abbrev pub known : Cnf → (so_far : List Step) → List (List ℤ)
known cnf so_far = map literals cnf.clauses ++ map (λ s. literals s.clause) so_far

-- the clause names variables from 1 to `vars`, and none twice, so it has no repeated and no opposite literals
pub record IsProper (vars : ℕ) (clause : List ℤ) : Type 0 where
  pub named : All (Names vars) clause
  pub distinct : IsTrue (no_repeats (map variable clause))

-- where all literals of the clause are false, the hints lead to the conflict
pub record Follows (vars : ℕ) (clauses : List (List ℤ)) (clause : List ℤ) (hints : List ℕ) : Type 0 where
  pub proper : IsProper vars clause
  pub refuted : Refutes clauses (map opposite clause) hints

-- step k follows from what is known before it
abbrev pub Derived : Cnf → List Step → (k : ℕ) → Type 0
Derived cnf steps k = (step : Step) × (slice_get steps k ≡ Some step)
    × Follows cnf.vars (known cnf (take k steps)) (literals step.clause) step.hints

abbrev pub EachDerived : Cnf → List Step → Type 0
EachDerived cnf steps = (k : ℕ) → k < length steps → Derived cnf steps k

-- the last clause is empty
abbrev pub EndsEmpty : List Step → Type 0
EndsEmpty steps = (step : Step) × (slice_get steps (length steps - 1) ≡ Some step) × (literals step.clause ≡ [])

abbrev pub Derives : Cnf → Log → Type 0
Derives cnf log = EachDerived cnf log.steps × EndsEmpty log.steps
