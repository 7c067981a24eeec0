-- Cited by private clauses: patterns, and tuples as numbers of terms.
use Rattle.std.specs.Prelude.{◌≡◌, ℕ, ◌<◌, ◌==◌, List, [], ◌∷◌, ◌++◌, filter_map, flat_map, fold, get_or, if◌then◌else◌, length, map, Option, Some, None, option_and_then, slice_get, Vec}
use Rattle.std.specs.List.{AllByRecursion, list_any}
use Rattle.std.specs.declared.alloc.Global.{Global}
use Rattle.cocoon_num.specs.Names.{same_name}
use Rattle.bv_terms.specs.declared.node.Node.{Node}
use Rattle.bv_terms.specs.declared.node.Node.TheVariants.{Apply}
use Rattle.numbering.specs.KeyPlaces.{Holds}
use Rattle.query_laws.specs.Patterns.{Pattern}
use Rattle.pattern_instances.specs.declared.patterns.Pattern.{Pattern as Found}
use Rattle.pattern_instances.specs.declared.tuples.Tuples.{Tuples}

-- ---- patterns

abbrev pub found_pattern : Found → Pattern
found_pattern p = record { function = p.function; places = p.places.items }

abbrev pub found_patterns : List Found → List Pattern
found_patterns ps = map found_pattern ps

-- arguments at places
abbrev pub args_at : (args places : List ℕ) → List ℕ
args_at args places = map (λ k. get_or args k 0) places

abbrev pub tuple_in : Node → Pattern → Option (List ℕ)
tuple_in (Apply f args w) p = if f == p.function then Some (args_at args p.places) else None
tuple_in node p = None

-- what the term under this number gives by a pattern
abbrev pub tuple_found : List Node → ℕ → Pattern → Option (List ℕ)
tuple_found nodes id p = option_and_then (λ node. tuple_in node p) (slice_get nodes id)

-- if it is of the pattern's function, it has arguments at the places
abbrev pub HasPlaces : List Node → ℕ → Pattern → Type 0
HasPlaces nodes id p =
    (args : List ℕ) (w : ℕ) → slice_get nodes id ≡ Some (Apply p.function args w)
    → AllByRecursion (λ k. k < length args) p.places

abbrev pub HavePlaces : List Node → List Pattern → ℕ → Type 0
HavePlaces nodes ps id = AllByRecursion (HasPlaces nodes id) ps

-- what the terms under these numbers give, one after the other
abbrev pub all_found : List Node → List Pattern → (ids : List ℕ) → List (List ℕ)
all_found nodes ps ids = flat_map (λ id. filter_map (tuple_found nodes id) ps) ids

-- ---- each tuple once

abbrev pub with_ids : List (List ℕ) → List ℕ → List (List ℕ)
with_ids seen ids = if list_any (same_name ids) seen then seen else seen ++ ids ∷ []

abbrev pub distinct_ids : List (List ℕ) → List (List ℕ)
distinct_ids tuples = fold with_ids [] tuples

abbrev pub tuple_ids : List (Vec ℕ Global) → List (List ℕ)
tuple_ids tuples = map (λ (v : Vec ℕ Global). v.items) tuples

-- these are the tuples so far, with their keys
pub record HasTuples (t : Tuples) (tuples : List (List ℕ)) : Type 0 where
  pub keys_ : Holds t.keys tuples
  pub are : tuple_ids t.tuples.items ≡ tuples
