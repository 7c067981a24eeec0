-- Cited by the clauses of what resolves a conflict, and of what refutes.
use Rattle.std.specs.Prelude.{◌≡◌, ℕ, ◌+◌, ◌<◌, ◌≤◌, ℤ, Bool, ◌⊎◌, IsTrue, List, [], ◌∷◌, ◌++◌, length, slice_get, Some, take}
use Rattle.cnf_core.specs.Deriving.{EachDerived, EndsEmpty}
use Rattle.cnf_core.specs.Licensing.{BringsNew}
use Rattle.cnf_core.specs.declared.clauses.Cnf.{Cnf}
use Rattle.cnf_core.specs.declared.log.Step.{Step}
use Rattle.cdcl.specs.Marks.{MarksToo, Shows, is_marked}
use Rattle.cdcl.specs.Searching.{IsClosed}
use Rattle.cdcl.specs.declared.analysis.Analysis.{Analysis}

-- all marked literals are among the first `top`, and the conflict follows from them
pub record Analyzed (clauses : List (List ℤ)) (trues : List ℤ) (top : ℕ) (a : Analysis) : Type 0 where
  pub sized : length a.marks.items ≡ length trues
  pub below : (q : ℕ) → q < length trues → IsTrue (is_marked a.marks.items q) → q < top
  pub shows : Shows clauses trues a.marks.items top a.hints.items

-- the literals are marked that make those of the clause of this number false
abbrev pub MarksNumber : (clauses : List (List ℤ)) (trues : List ℤ) (number : ℕ) (old new : List Bool) → Type 0
MarksNumber clauses trues number old new = (clause : List ℤ) → slice_get clauses number ≡ Some clause → MarksToo clause trues old new

-- the same, and its number is noted
pub record MarksClause (clauses : List (List ℤ)) (trues : List ℤ) (number : ℕ) (old new : Analysis) : Type 0 where
  pub same_floor : new.floor ≡ old.floor
  pub more : old.count ≤ new.count
  pub noted : new.hints.items ≡ old.hints.items ++ number ∷ []
  pub marks : (clause : List ℤ) → slice_get clauses number ≡ Some clause → MarksToo clause trues old.marks.items new.marks.items

-- where the literals of the last level begin, of which so many are left: none at level 0, or the one that its decision leads to
abbrev pub IsLevel : (clauses : List (List ℤ)) (trues : List ℤ) (floor keep : ℕ) → Type 0
IsLevel clauses trues floor keep = (keep ≡ 0) ⊎ ((keep ≡ 1) × IsClosed clauses (take floor trues))

-- so many literals of the last level are marked, and the conflict follows from those that are
pub record IsResolved (clauses : List (List ℤ)) (trues : List ℤ) (floor keep : ℕ) (a : Analysis) : Type 0 where
  pub at_floor : a.floor ≡ floor
  pub exact : a.count ≡ keep
  pub analyzed : (top : ℕ) × Analyzed clauses trues top a

-- the steps are one more, and the last is empty; each follows, and those before the last are new
pub record RefutesIn (cnf : Cnf) (old new : List Step) : Type 0 where
  pub one : length new ≡ length old + 1
  pub derived : EachDerived cnf new
  pub ends : EndsEmpty new
  pub new_before : (k : ℕ) → k + 1 < length new → BringsNew cnf new k
