-- Cited by the clauses of `Chains`: for which clauses it was made, by the indices of their top literals.
use Rattle.std.specs.Prelude.{◌≡◌, ℕ, ◌+◌, ◌*◌, ◌<◌, nat_lt, if◌then◌else◌, ℤ, List, [], ◌∷◌, length, map, slice_index}
use Rattle.cnf_core.specs.Literals.{index_of, variable}
use Rattle.proof_check.specs.declared.chains.Chains.{Chains}

-- `after` is one more than the number of the last of the first `bound` clauses whose top literal has this index, or 0
-- where there is none
pub record IsLast (tops : List ℕ) (index bound after : ℕ) : Type 0 where
  pub later : (j : ℕ) → j < bound → slice_index tops j ≡ index → j < after
  pub found : (j : ℕ) → after ≡ j + 1 → (j < bound) × (slice_index tops j ≡ index)

pub record Registers (vars : ℕ) (tops : List ℕ) (chains : Chains) : Type 0 where
  pub indexed : length chains.heads.items ≡ vars * 2 + 2
  pub linked : length chains.links.items ≡ length tops
  pub heads : (i : ℕ) → IsLast tops i (length tops) (slice_index chains.heads.items i)
  pub links : (k : ℕ) → k < length tops → IsLast tops (slice_index tops k) k (slice_index chains.links.items k)

-- of two literals the one with the higher variable
abbrev pub higher : ℤ → ℤ → ℤ
higher l m = if nat_lt (variable l) (variable m) then m else l

-- of a literal and more the one with the highest variable
abbrev pub top_of : ℤ → List ℤ → ℤ
top_of l [] = l
top_of l (m ∷ ms) = top_of (higher l m) ms

-- the index of the top literal, the one with the highest variable
abbrev pub top_index : List ℤ → ℕ
top_index [] = 0
top_index (l ∷ ls) = index_of (top_of l (l ∷ ls))

abbrev pub tops_of : List (List ℤ) → List ℕ
tops_of clauses = map top_index clauses
