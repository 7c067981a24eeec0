-- What the last level of the worked example's design delivers.
use Rattle.std.specs.Prelude.{ℕ, List, [], ◌∷◌, refl}
use Rattle.cocoon_types.specs.Runs.{LastGo, Walk, world}
use Rattle.cocoon_types.specs.Tables.{Defs, defs_of}
use Rattle.cocoon_types.specs.Taken.{RunsAreTaken, Used}
use Rattle.command_laws.specs.ExampleDesign.{c_definitions, c_tree}

abbrev c_functions : Defs
c_functions = defs_of c_tree c_definitions

-- where all choices were none, none was used
none_used : (P : List ℕ → Type 0) → Used [] [] P → P []
none_used P ([], e, p) = p
none_used P (x ∷ xs, e, p) = absurd cc

pub c_delivers : RunsAreTaken → LastGo c_tree c_functions 0 (1 ∷ 255 ∷ []) [] 1 1 (1 ∷ 255 ∷ [])
c_delivers taken = record {
  hosts = _;
  packet = (1 ∷ []) ∷ [];
  payload = 255 ∷ [];
  sent = (1 ∷ []) ∷ [];
  hosts_are = refl;
  enters = refl;
  walks = none_used (λ used. Walk (world 0 c_tree c_functions) 3 _ _ used _ _) (taken.walk_gives _ 3 _ _ [] _ _ [] refl);
  leaves = refl;
}

pub c_delivers_otherwise : RunsAreTaken → LastGo c_tree c_functions 3 (2 ∷ []) [] 1 2 (2 ∷ [])
c_delivers_otherwise taken = record {
  hosts = _;
  packet = (2 ∷ []) ∷ [];
  payload = [];
  sent = (2 ∷ []) ∷ [];
  hosts_are = refl;
  enters = refl;
  walks = none_used (λ used. Walk (world 0 c_tree c_functions) 3 _ _ used _ _) (taken.walk_gives _ 3 _ _ [] _ _ [] refl);
  leaves = refl;
}

pub c_delivers_nothing : (a : ℕ) (choices : List ℕ) (visits b : ℕ) (out : List ℕ) → LastGo c_tree c_functions a [] choices visits b out → ⊥
c_delivers_nothing a choices visits b out h = cc h.enters
