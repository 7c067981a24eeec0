-- Cited by the clauses of `copy`: which inputs a copied term has, and under which names.
use Rattle.std.specs.Prelude.{◌≡◌, ℕ, ◌+◌, ◌<◌, ◌==◌, suc, if◌then◌else◌, List, [], ◌∷◌, Some, slice_get}
use Rattle.bv_terms.specs.TermTrees.{Term}
use Rattle.bv_terms.specs.Inputs.{Mentions}
use Rattle.bv_terms.specs.Needed.{IsAmong}

-- the index of a number in a list: the length, if it is not there
abbrev pub index_in : List ℕ → ℕ → ℕ
index_in [] i = 0
index_in (j ∷ js) i = if j == i then 0 else suc (index_in js i)

-- the names of some inputs in a copy: numbers from the first on, in their order
abbrev pub new_name : (first : ℕ) → List ℕ → ℕ → ℕ
new_name first inputs i = first + index_in inputs i

-- a number is larger than those before it
abbrev pub AreRising : List ℕ → Type 0
AreRising xs =
    (i j a b : ℕ) → i < j → slice_get xs i ≡ Some a → slice_get xs j ≡ Some b → a < b

-- the inputs of a term, in ascending order
pub record AreInputs (t : Term) (inputs : List ℕ) : Type 0 where
  pub rising : AreRising inputs
  pub each_ : (i w : ℕ) → Mentions t i w → IsAmong inputs i
  pub only : (i : ℕ) → IsAmong inputs i → (w : ℕ) × Mentions t i w
