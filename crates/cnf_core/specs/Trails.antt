-- Cited by the clauses of `Trail`: the literals that are true, and where each stands among them.
use Rattle.std.specs.Prelude.{◌≡◌, ◌≢◌, ℕ, ◌+◌, ◌<◌, ℤ, pos, IsTrue, IsFalse, List, map, length, slice_index_or}
use Rattle.cnf_core.specs.Deriving.{forces, is_conflict}
use Rattle.cnf_core.specs.Literals.{index_of, variable}
use Rattle.cnf_core.specs.declared.lit.Lit.{Lit}
use Rattle.cnf_core.specs.declared.clause_status.ClauseStatus.{ClauseStatus}
use Rattle.cnf_core.specs.declared.clause_status.ClauseStatus.TheVariants.{Conflict, Forces, Open}

abbrev pub numbers : List Lit → List ℤ
numbers lits = map (λ l. l.number) lits

abbrev pub literal_at : List ℤ → ℕ → ℤ
literal_at trues p = slice_index_or trues p (pos 0)

-- by the index of a literal: one more than its place where it is true, else 0
pub record Placed (trues : List ℤ) (places : List ℕ) : Type 0 where
  pub at : (p : ℕ) → p < length trues → slice_index_or places (index_of (literal_at trues p)) 0 ≡ p + 1
  pub within : (i p : ℕ) → slice_index_or places i 0 ≡ p + 1 → p < length trues
  pub back : (i p : ℕ) → slice_index_or places i 0 ≡ p + 1 → index_of (literal_at trues p) ≡ i

-- no variable has two literals there
abbrev pub IsApart : List ℤ → Type 0
IsApart trues = (p q : ℕ) → p < q → q < length trues → variable (literal_at trues p) ≢ variable (literal_at trues q)

-- the status of a clause under the literals that are true
abbrev pub HasStatus : (trues clause : List ℤ) → ClauseStatus → Type 0
HasStatus trues clause Conflict = IsTrue (is_conflict trues clause) × ((l : ℤ) → IsFalse (forces trues clause l))
HasStatus trues clause (Forces lit) = IsFalse (is_conflict trues clause) × IsTrue (forces trues clause lit.number)
    × ((l : ℤ) → IsTrue (forces trues clause l) → l ≡ lit.number)
HasStatus trues clause Open = IsFalse (is_conflict trues clause) × ((l : ℤ) → IsFalse (forces trues clause l))
