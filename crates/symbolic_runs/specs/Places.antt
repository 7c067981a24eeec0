-- Cited by the private clauses of `fields`: where a field lies among the terms of all fields.
use Rattle.std.specs.Prelude.{ℕ, ◌+◌, List, [], ◌∷◌, length, if◌then◌else◌, Option, Some, None, option_map}
use Rattle.cocoon_num.specs.Names.{same_name}
use Rattle.cocoon_num.specs.Tree.{Param, HeaderDecl}

-- so many fields later
abbrev pub later : ℕ → ℕ → ℕ
later before place = before + place

-- the place of the field f among those of one header
abbrev pub place_in : List Param → List ℕ → Option ℕ
place_in [] f = None
place_in (p ∷ ps) f = if same_name f p.name.text then Some 0 else option_map (later 1) (place_in ps f)

-- that of the field f of the header h among those of all
abbrev pub place_of : List HeaderDecl → List ℕ → List ℕ → Option ℕ
place_of [] h f = None
place_of (d ∷ ds) h f = if same_name h d.name.text then place_in d.fields f else option_map (later (length d.fields)) (place_of ds h f)
