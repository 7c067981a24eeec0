-- Cited by private clauses: places, grouped by functions.
use Rattle.std.specs.Prelude.{◌≡◌, ℕ, ◌==◌, List, [], ◌∷◌, ◌++◌, if◌then◌else◌, option_map, unwrap_or}
use Rattle.std.specs.Ordering.{nat_cmp}
use Rattle.std.specs.BTreeMap.{get}
use Rattle.flat_goals.specs.declared.groups.Groups.{Groups}

-- the places of a function: none, if it has no group
abbrev pub places_of : Groups → ℕ → List ℕ
places_of groups f = unwrap_or (option_map (λ v. v.items) (get nat_cmp groups.places f)) []

-- a function has one place more, behind the others
abbrev pub IsAdded : (old new : Groups) → (f place : ℕ) → Type 0
IsAdded old new f place =
    (g : ℕ) → places_of new g ≡ (if f == g then places_of old g ++ place ∷ [] else places_of old g)
