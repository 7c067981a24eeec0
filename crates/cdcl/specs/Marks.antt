-- Cited by the clauses of `Analysis`: literals of a trail that are marked, and what they show.
use Rattle.std.specs.Prelude.{◌≡◌, ℕ, ◌<◌, ◌||◌, ℤ, Bool, true, false, IsTrue, List, [], ◌∷◌, length, drop, take, reverse, slice_index_or, if◌then◌else◌}
use Rattle.std.specs.List.{count_by}
use Rattle.cnf_core.specs.Deriving.{Refutes}
use Rattle.cnf_core.specs.Literals.{has_literal, opposite}
use Rattle.cnf_core.specs.Trails.{literal_at}

abbrev pub is_marked : List Bool → ℕ → Bool
is_marked marks p = slice_index_or marks p false

-- the literals at the places that are marked
abbrev pub marked_literals : List Bool → List ℤ → List ℤ
marked_literals (true ∷ marks) (t ∷ ts) = t ∷ marked_literals marks ts
marked_literals (false ∷ marks) (t ∷ ts) = marked_literals marks ts
marked_literals _ _ = []

-- the opposite of the literal at this place, if it is marked
abbrev pub opposite_at : List Bool → List ℤ → ℕ → List ℤ
opposite_at marks ts p = if is_marked marks p then opposite (literal_at ts p) ∷ [] else []

-- how many places from the floor on are marked
abbrev pub count_from : ℕ → List Bool → ℕ
count_from floor marks = count_by (λ b. b) (drop floor marks)

-- besides, the places are marked whose literals make one of the clause false
pub record MarksToo (clause trues : List ℤ) (old new : List Bool) : Type 0 where
  pub sized : length new ≡ length old
  pub marks : (p : ℕ) → p < length trues → is_marked new p ≡ (is_marked old p || has_literal clause (opposite (literal_at trues p)))

-- with the hints so far, the conflict follows where the marked literals are true and none after the first `top`
abbrev pub Shows : (clauses : List (List ℤ)) (trues : List ℤ) (marks : List Bool) (top : ℕ) (hints : List ℕ) → Type 0
Shows clauses trues marks top hints = (us : List ℤ)
    → ((p : ℕ) → p < length trues → IsTrue (is_marked marks p) → IsTrue (has_literal us (literal_at trues p)))
    → ((l : ℤ) → IsTrue (has_literal us l) → IsTrue (has_literal (take top trues) l))
    → Refutes clauses us (reverse hints)
