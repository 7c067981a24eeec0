-- Cited by the clauses of what takes the hints of a step one by one.
use Rattle.std.specs.Prelude.{◌≡◌, ℕ, ◌≤◌, ◌↔◌, ℤ, IsTrue, List, [], ◌∷◌, ◌++◌}
use Rattle.std.specs.List.{All}
use Rattle.cnf_core.specs.Deriving.{Refutes, has_no_value}
use Rattle.cnf_core.specs.Literals.{Names, variable}
use Rattle.cnf_core.specs.declared.clause_status.ClauseStatus.{ClauseStatus}
use Rattle.cnf_core.specs.declared.clause_status.ClauseStatus.TheVariants.{Conflict, Forces, Open}

-- each literal of each clause names a variable
abbrev pub AllNamed : (vars : ℕ) → List (List ℤ) → Type 0
AllNamed vars clauses = All (All (Names vars)) clauses

-- what taking the hinted clause first means for the hints after it
abbrev pub HintHasStatus : (vars : ℕ) (clauses : List (List ℤ)) (trues : List ℤ) (hint : ℕ) → ClauseStatus → Type 0
HintHasStatus vars clauses trues hint Conflict = (hints : List ℕ) → Refutes clauses trues (hint ∷ hints) ↔ (hints ≡ [])
HintHasStatus vars clauses trues hint (Forces lit) = (variable lit.number ≤ vars) × IsTrue (has_no_value trues lit.number)
    × ((hints : List ℕ) → Refutes clauses trues (hint ∷ hints) ↔ Refutes clauses (trues ++ lit.number ∷ []) hints)
HintHasStatus vars clauses trues hint Open = (hints : List ℕ) → Refutes clauses trues (hint ∷ hints) → ⊥
