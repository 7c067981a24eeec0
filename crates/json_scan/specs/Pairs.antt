-- Forms of arrays of two items and of objects of two members. The clauses of what reads them cite it.
use Rattle.std.specs.Prelude.{◌≡◌, ◌||◌, ℕ, Bool, true, false, not, List, [], ◌∷◌, Option, Some, None, option_map, option_and_then, if◌then◌else◌}
use Rattle.std.specs.Cmp.Lexicographic.{slice_cmp}
use Rattle.std.specs.Ordering.{nat_cmp, match_ordering}
use Rattle.std.specs.Str.{bytes_eq}
use Rattle.serde_json.specs.Data.{Data, Items, no_items, item, Members, no_members, member}
use Rattle.serde_json.specs.Find.{get_member}
use Rattle.json_forms.specs.Forms.{are_keys, has_items, has_keys, item_form, member_form}

-- the first key comes before the second
abbrev pub ascends : List ℕ → List ℕ → Bool
ascends k l = match_ordering (slice_cmp nat_cmp k l) true false false

-- what each of two items stands for, where there are two
abbrev pub array_form : {A B : Type 0} → (Data → Option A) → (Data → Option B) → Data → Option (Option A × Option B)
array_form f g d = if has_items 2 d then Some (item_form f 0 d, item_form g 1 d) else None

-- what each of two members stands for, where these are the keys
abbrev pub object_form : {A B : Type 0} → (Data → Option A) → (Data → Option B) → List ℕ → List ℕ → Data → Option (Option A × Option B)
object_form f g k l d = if has_keys (k ∷ l ∷ []) d then Some (member_form f k d, member_form g l d) else None

-- ---- the same of items and of members, for clauses inside the crate

abbrev pub last_of : {B : Type 0} → (Data → Option B) → Items → Option (Option B)
last_of g no_items = None
last_of g (item d no_items) = Some (g d)
last_of g (item d (item e ds)) = None

abbrev pub pair_of : {A B : Type 0} → (Data → Option A) → (Data → Option B) → Items → Option (Option A × Option B)
pair_of f g no_items = None
pair_of f g (item d ds) = option_map (λ b. (f d, b)) (last_of g ds)

abbrev pub members_of : {A B : Type 0} → (Data → Option A) → (Data → Option B) → List ℕ → List ℕ → Members → Option (Option A × Option B)
members_of f g k l ms = if are_keys (k ∷ l ∷ []) ms then Some (option_and_then f (get_member k ms), option_and_then g (get_member l ms)) else None

-- the members of two keys, each where it is there
abbrev pub two_members : List ℕ → List ℕ → Option Data → Option Data → Members
two_members k l None None = no_members
two_members k l (Some d) None = member k d no_members
two_members k l None (Some e) = member l e no_members
two_members k l (Some d) (Some e) = member k d (member l e no_members)

-- there is a key that is none of the two
abbrev pub has_other : List ℕ → List ℕ → Members → Bool
has_other k l no_members = false
has_other k l (member q d ms) = not (bytes_eq q k || bytes_eq q l) || has_other k l ms

-- the members that were read so far have these values under the two keys, and other keys or none
pub record IsPair {A B : Type 0} (f : Data → A) (g : Data → B) (k l : List ℕ) (ms : Members) (first : Option A) (second : Option B) : Type 0 where
  pub under_first : Option Data
  pub under_second : Option Data
  pub are : ms ≡ two_members k l under_first under_second
  pub first_is : option_map f under_first ≡ first
  pub second_is : option_map g under_second ≡ second

abbrev pub Holds : {A B : Type 0} → (Data → A) → (Data → B) → List ℕ → List ℕ → Members → Bool → Option A → Option B → Type 0
Holds f g k l ms true first second = has_other k l ms ≡ true
Holds f g k l ms false first second = IsPair f g k l ms first second
