-- Cited by clauses of `questions`: which assumptions are questions, and the terms of their parameters.
use Rattle.std.specs.Prelude.{ℕ, ◌==◌, ◌&&◌, Bool, true, false, List, [], ◌∷◌, length, nat_lt}
use Rattle.cocoon_num.specs.Sorts.{truth_sort}
use Rattle.cocoon_num.specs.Tree.{AssumeDecl, Param, Design}
use Rattle.cocoon_types.specs.Design.{last_level}
use Rattle.bv_terms.specs.declared.node.Node.{Node}
use Rattle.bv_terms.specs.Arenas.{width_at}
use Rattle.sound_types.specs.WellTyped.{HasType, scope_at}

-- its body is a truth value, where its parameters are in scope
abbrev pub IsQuestion : Design → AssumeDecl → Type 0
IsQuestion d a = HasType (scope_at d (last_level d) a.params false) truth_sort a.body

-- whether the arena has this term, and it is as wide as the parameter
abbrev pub is_param : List Node → Param → ℕ → Bool
is_param nodes p id = nat_lt id (length nodes) && (width_at nodes id == p.width)

-- whether there is one for each parameter
abbrev pub are_params : List Node → List Param → List ℕ → Bool
are_params nodes [] [] = true
are_params nodes (p ∷ ps) (id ∷ ids) = is_param nodes p id && are_params nodes ps ids
are_params nodes _ _ = false
