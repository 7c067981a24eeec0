-- Cited by the definition of queries: a term in an arena of its own, where its inputs are numbered from 0 on, in ascending order
-- of the numbers that they had.
use Rattle.std.specs.Prelude.{ℕ, ◌==◌, nat_lt, if◌then◌else◌, List, [], ◌∷◌, length}
use Rattle.bv_terms.specs.Inputs.{renamed}
use Rattle.bv_terms.specs.TermTrees.{Term, input}
use Rattle.bv_terms.specs.Walks.{walk}
use Rattle.bv_terms.specs.Copies.{new_name}

-- some ascending numbers, and this one among them
abbrev pub with_number : ℕ → List ℕ → List ℕ
with_number i [] = i ∷ []
with_number i (j ∷ js) =
    if i == j then j ∷ js else (if nat_lt i j then i ∷ j ∷ js else j ∷ with_number i js)

-- the numbers of the inputs among some terms, in ascending order
abbrev pub input_numbers : List Term → List ℕ
input_numbers [] = []
input_numbers (input i w ∷ ts) = with_number i (input_numbers ts)
input_numbers (t ∷ ts) = input_numbers ts

abbrev pub inputs_of : Term → List ℕ
inputs_of t = input_numbers (walk t [])

abbrev pub input_count : Term → ℕ
input_count t = length (inputs_of t)

abbrev pub own_name : Term → ℕ → ℕ
own_name t = new_name 0 (inputs_of t)

abbrev pub in_own_arena : Term → Term
in_own_arena t = renamed (own_name t) t
