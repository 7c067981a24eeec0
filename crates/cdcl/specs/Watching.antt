-- Two watched literals in each clause. Cited by the clauses of `Watches` and of `Search`.
use Rattle.std.specs.Prelude.{◌≡◌, ◌≢◌, ℕ, ◌+◌, ◌<◌, ◌≤◌, ◌⊎◌, ℤ, IsTrue, List, [], length, slice_get, slice_index, Option, Some, None}
use Rattle.std.specs.Option.{option_map_or}
use Rattle.smallvec.specs.SmallVec.{SmallVec}
use Rattle.cnf_core.specs.Literals.{has_literal, index_of, opposite, variable}
use Rattle.cnf_core.specs.Trails.{literal_at}
use Rattle.cnf_core.specs.declared.lit.Lit.{Lit}
use Rattle.cdcl.specs.declared.watches.Pair.{Pair}
use Rattle.cdcl.specs.declared.watches.Watches.{Watches}

-- the numbers in the list of a literal
abbrev pub list_of : Watches → ℤ → List ℕ
list_of w l = option_map_or (λ (v : SmallVec ℕ). v.items) (slice_get w.lists.items (index_of l)) []

-- the two literals of a pair, in either order
abbrev pub AreWatched : Pair → (a b : ℤ) → Type 0
AreWatched p a b = ((p.first.number ≡ a) × (p.second.number ≡ b)) ⊎ ((p.second.number ≡ a) × (p.first.number ≡ b))

-- the other literal of a pair, if it has this one
abbrev pub IsOther : Pair → ℤ → Option Lit → Type 0
IsOther p l (Some other) = AreWatched p l other.number
IsOther p l None = (other : ℤ) → AreWatched p l other → ⊥

-- what the clause of this number watches besides this literal, if it watches it
abbrev pub WatchesOther : Watches → (number : ℕ) → ℤ → Option Lit → Type 0
WatchesOther w number l (Some other) = (pair : Pair) × (slice_get w.pairs.items number ≡ Some pair) × AreWatched pair l other.number
WatchesOther w number l None = (pair : Pair) (other : ℤ) → slice_get w.pairs.items number ≡ Some pair → AreWatched pair l other → ⊥

-- the number is in a list, at this place or a later one
pub record IsListed (list : List ℕ) (first number : ℕ) : Type 0 where
  pub at : ℕ
  pub later : first ≤ at
  pub within : at < length list
  pub there : slice_index list at ≡ number

-- one number fewer: all others that are in the list up to this place or after it still are
pub record IsTakenOut (old : List ℕ) (at : ℕ) (new : List ℕ) : Type 0 where
  pub fewer : length new + 1 ≡ length old
  pub others : (first k : ℕ) → first ≤ at → k ≢ slice_index old at → IsListed old first k → IsListed new first k

-- the literal is true, and was set at the level of the one at place p or at an earlier one
pub record IsTrueBy (trues : List ℤ) (starts : List ℕ) (p : ℕ) (l : ℤ) : Type 0 where
  pub place : ℕ
  pub within : place < length trues
  pub literal : literal_at trues place ≡ l
  pub early : (i : ℕ) → i < length starts → p < slice_index starts i → place < slice_index starts i

-- the literal is true at level 0
pub record IsTrueFirst (trues : List ℤ) (starts : List ℕ) (l : ℤ) : Type 0 where
  pub place : ℕ
  pub within : place < length trues
  pub literal : literal_at trues place ≡ l
  pub first : (i : ℕ) → i < length starts → place < slice_index starts i

-- if the first literal is false and was propagated, the other is true, set at the same level or an earlier one
abbrev pub IsBeside : (trues : List ℤ) (propagated : ℕ) (starts : List ℕ) (a b : ℤ) → Type 0
IsBeside trues propagated starts a b = (p : ℕ) → p < propagated → literal_at trues p ≡ opposite a → IsTrueBy trues starts p b

-- a clause watches two different literals of its own, or one that is true at level 0
pub record IsWatching (trues : List ℤ) (propagated : ℕ) (starts : List ℕ) (clause : List ℤ) (pair : Pair) : Type 0 where
  pub inside : (a b : ℤ) → AreWatched pair a b → IsTrue (has_literal clause a)
  pub beside : (a b : ℤ) → AreWatched pair a b → IsBeside trues propagated starts a b
  pub two : (pair.first.number ≢ pair.second.number) ⊎ IsTrueFirst trues starts pair.first.number

-- the watch invariant, for the clauses that have a pair
pub record IsWatched (vars : ℕ) (clauses : List (List ℤ)) (trues : List ℤ) (propagated : ℕ) (starts : List ℕ) (w : Watches) : Type 0 where
  -- what was propagated is true
  pub propagated_true : propagated ≤ length trues
  -- all was propagated when a decision was made
  pub decided : (i : ℕ) → i < length starts → slice_index starts i ≤ propagated
  pub watching : (k : ℕ) (clause : List ℤ) (pair : Pair) → slice_get clauses k ≡ Some clause → slice_get w.pairs.items k ≡ Some pair → IsWatching trues propagated starts clause pair
  pub listed : (k : ℕ) (pair : Pair) (a b : ℤ) → slice_get w.pairs.items k ≡ Some pair → AreWatched pair a b → IsListed (list_of w a) 0 k
  -- each literal has a list
  pub rooms : (l : ℤ) → variable l ≤ vars → index_of l < length w.lists.items

-- each clause that watches a literal watches a true one besides, or is in the list at this place or a later one
abbrev pub IsLookedAt : (trues : List ℤ) (w : Watches) (l : ℤ) (at : ℕ) → Type 0
IsLookedAt trues w l at = (k : ℕ) (pair : Pair) (b : ℤ) → slice_get w.pairs.items k ≡ Some pair → AreWatched pair l b → IsTrue (has_literal trues b) ⊎ IsListed (list_of w l) at k

-- the number stands at this place of a list
pub record IsEntry (list : List ℕ) (at number : ℕ) : Type 0 where
  pub within : at < length list
  pub there : slice_index list at ≡ number
