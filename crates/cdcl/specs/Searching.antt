-- What keeps a search right, of its clauses and its trail alone. Cited by the clauses of the state of a search.
use Rattle.std.specs.Prelude.{◌≡◌, ◌≢◌, ℕ, ◌+◌, ◌<◌, ◌≤◌, ◌⊎◌, ◌||◌, ℤ, pos, true, false, IsTrue, List, length, take, slice_get, slice_index, Option, Some}
use Rattle.std.specs.List.{All}
use Rattle.cocoon_num.specs.Lists.{has_number}
use Rattle.cnf_core.specs.Deriving.{forces, is_conflict, is_false}
use Rattle.cnf_core.specs.Literals.{has_literal, opposite}
use Rattle.cnf_core.specs.Trails.{HasStatus, literal_at}
use Rattle.cnf_core.specs.declared.clause_status.ClauseStatus.TheVariants.{Open}

-- nothing is forced any more, and nothing is a conflict
abbrev pub IsClosed : (clauses : List (List ℤ)) → (trues : List ℤ) → Type 0
IsClosed clauses trues = All (λ c. HasStatus trues c Open) clauses

-- the clause of this number is a conflict
abbrev pub IsConflictAt : (clauses : List (List ℤ)) → (trues : List ℤ) → ℕ → Type 0
IsConflictAt clauses trues number = (clause : List ℤ) × (slice_get clauses number ≡ Some clause) × IsTrue (is_conflict trues clause)

-- the clause of this number forced the literal at this place, by those before it
abbrev pub IsForcedBy : (clauses : List (List ℤ)) → (trues : List ℤ) → (place number : ℕ) → Type 0
IsForcedBy clauses trues p number = (clause : List ℤ) × (slice_get clauses number ≡ Some clause)
    × IsTrue (forces (take p trues) clause (literal_at trues p))

-- the literal at this place has a reason, the clause that forced it
abbrev pub HasReason : (clauses : List (List ℤ)) → (trues : List ℤ) → (reasons : List (Option ℕ)) → (place : ℕ) → Type 0
HasReason clauses trues reasons p = (number : ℕ) × (slice_get reasons p ≡ Some (Some number)) × IsForcedBy clauses trues p number

-- a trail with its reasons and the places of its decisions
pub record IsReasoned (clauses : List (List ℤ)) (trues : List ℤ) (reasons : List (Option ℕ)) (starts : List ℕ) : Type 0 where
  pub sized : length reasons ≡ length trues
  -- what is no decision was forced
  pub forced : (p : ℕ) → p < length trues → has_number p starts ≡ false → HasReason clauses trues reasons p
  pub rising : (i j : ℕ) → i < j → j < length starts → slice_index starts i < slice_index starts j
  pub under : (i : ℕ) → i < length starts → slice_index starts i < length trues
  -- nothing more was forced where a decision was made
  pub closed : (i : ℕ) → i < length starts → IsClosed clauses (take (slice_index starts i) trues)

-- each variable has a value
abbrev pub IsTotal : (vars : ℕ) → (trues : List ℤ) → Type 0
IsTotal vars trues = (v : ℕ) → v < vars → (has_literal trues (pos (v + 1)) || is_false trues (pos (v + 1))) ≡ true

-- the clause forces the first of two of its literals, and the second became false at the last level; or it is level 0
pub record IsAsserting (trues : List ℤ) (starts : List ℕ) (clause : List ℤ) (first second : ℤ) : Type 0 where
  pub forces : IsTrue (forces trues clause first)
  pub inside : IsTrue (has_literal clause second)
  pub last : (p i : ℕ) → p < length trues → literal_at trues p ≡ opposite second → i < length starts → slice_index starts i ≤ p
  pub two : (first ≢ second) ⊎ (length starts ≡ 0)
