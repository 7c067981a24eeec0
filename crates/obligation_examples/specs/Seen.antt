-- Cited by the clauses of the laws here: what is told of a leaf, and which leaves are true.
use Rattle.std.specs.Prelude.{ℕ, ◌==◌, ◌-◌, Bool, true, false, List, [], ◌∷◌, filter, if◌then◌else◌, map}
use Rattle.refinement.specs.Ways.{Way}
use Rattle.bv_terms.specs.TermValues.{Functions, Inputs, number_in, term_value}
use Rattle.obligation_laws.specs.States.{NewInput}
use Rattle.obligation_laws.specs.Leaves.{End, sent_to, inside, Leaf, end_role}

-- a leaf ends inside
abbrev pub is_inside : End → Bool
is_inside (sent_to role values fields) = false
is_inside (inside role values fields) = true

-- its way, its role, whether it ends inside, and the numbers of its choices
abbrev pub Told : Type 0
Told = Way × List ℕ × Bool × List ℕ

abbrev pub told : Leaf → Told
told l = (l.way, end_role l.end, is_inside l.end, map (λ (i : NewInput). i.number) l.choices)

-- inputs with these numbers, from 0 on
abbrev pub inputs_of : List ℕ → Inputs
inputs_of [] i = 0
inputs_of (n ∷ ns) i = if i == 0 then n else inputs_of ns (i - 1)

-- the ways of the leaves that are true
abbrev pub true_ways : Functions → Inputs → List Leaf → List Way
true_ways F ins leaves = map (λ (l : Leaf). l.way) (filter (λ (l : Leaf). number_in (term_value F ins l.cond) == 1) leaves)
