-- Cited by the clause of the law `leaves_read_back`: choices of a leaf that are read back from what it sends.
use Rattle.std.specs.Prelude.{◌≡◌, ◌⊎◌, List, [], ◌∷◌, ◌++◌}
use Rattle.bv_terms.specs.TermTrees.{Term}
use Rattle.obligation_laws.specs.States.{NewInput, input_term}
use Rattle.obligation_laws.specs.Leaves.{Leaf, end_fields, end_values}
use Rattle.obligation_laws.specs.MadeOf.{LeafMade, OfInputs}

-- an input other than the choice
abbrev pub Other : NewInput → OfInputs
Other i n w = n ≡ i.number → ⊥

-- the choice is one of these terms, alone
abbrev pub StandsAmong : NewInput → List Term → Type 0
StandsAmong i [] = ⊥
StandsAmong i (t ∷ ts) = (t ≡ input_term i) ⊎ StandsAmong i ts

-- it stands alone among the values and fields that the leaf sends, or no term of the leaf names it
abbrev pub IsReadBack : Leaf → NewInput → Type 0
IsReadBack leaf i = StandsAmong i (end_values leaf.end ++ end_fields leaf.end) ⊎ LeafMade (Other i) leaf
