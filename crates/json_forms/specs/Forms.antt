-- Forms of JSON values: a form gives what a value stands for, or nothing where the value is not of the form. The clauses of
-- what reads JSON values, and the forms of files, cite it. It follows "How a bundle is read back" in docs/FORMATS.md.
use Rattle.std.specs.Prelude.{ℕ, ◌==◌, ◌&&◌, ◌^◌, ℤ, pos, negsuc, Bool, true, false, if◌then◌else◌, nat_lt, List, [], ◌∷◌, Option, Some, None, option_map, option_and_then}
use Rattle.std.specs.Str.{bytes_eq}
use Rattle.serde_json.specs.Data.{unsigned, negative, float, Num, Data, Items, no_items, item, Members, no_members, member}
use Rattle.serde_json.specs.Events.{items_len}
use Rattle.serde_json.specs.Find.{as_array, as_number, as_object, as_u64, at, get}

abbrev pub below : ℕ → ℕ → Option ℕ
below bound n = if nat_lt n bound then Some n else None

-- a whole number below this bound; a number that is kept as a fraction is none
abbrev pub number_form : ℕ → Data → Option ℕ
number_form bound d = option_and_then (below bound) (option_and_then as_u64 (as_number d))

-- the whole number of 64 bits that a number is kept as, negative or not
abbrev pub integer_of : Num → Option ℤ
integer_of (unsigned n) = if nat_lt n (2 ^ 63) then Some (pos n) else None
integer_of (negative (pos n)) = None
integer_of (negative (negsuc n)) = Some (negsuc n)
integer_of (float x) = None

-- a whole number that may be negative
abbrev pub integer_form : Data → Option ℤ
integer_form d = option_and_then integer_of (as_number d)

-- what is there, where it passes the test
abbrev pub fitting : {A : Type 0} → (A → Bool) → Option A → Option A
fitting test found = option_and_then (λ a. if test a then Some a else None) found

-- ---- arrays

-- each item is of this form
abbrev pub all_form : {A : Type 0} → (Data → Option A) → Items → Option (List A)
all_form form no_items = Some []
all_form form (item d ds) = option_and_then (λ x. option_map (λ xs. x ∷ xs) (all_form form ds)) (form d)

-- an array of items of this form
abbrev pub list_form : {A : Type 0} → (Data → Option A) → Data → Option (List A)
list_form form d = option_and_then (all_form form) (as_array d)

-- an array of so many items
abbrev pub has_items : ℕ → Data → Bool
has_items count d = elim (as_array d) [ Some ds ↦ items_len ds == count | None ↦ false ]

-- the item at this index is of this form
abbrev pub item_form : {A : Type 0} → (Data → Option A) → ℕ → Data → Option A
item_form form index d = option_and_then form (at index d)

-- ---- objects

-- the members have these keys, in this order
abbrev pub are_keys : List (List ℕ) → Members → Bool
are_keys [] no_members = true
are_keys [] (member l d ms) = false
are_keys (k ∷ ks) no_members = false
are_keys (k ∷ ks) (member l d ms) = bytes_eq l k && are_keys ks ms

-- An object with these keys and no other. An object that is read has each key once, in ascending order, and so have
-- these keys.
abbrev pub has_keys : List (List ℕ) → Data → Bool
has_keys keys d = elim (as_object d) [ Some ms ↦ are_keys keys ms | None ↦ false ]

-- the member of this key is of this form
abbrev pub member_form : {A : Type 0} → (Data → Option A) → List ℕ → Data → Option A
member_form form key d = option_and_then form (get key d)

-- ---- two parts

-- both, where both are there
abbrev pub both_of : {A B C : Type 0} → (A → B → C) → Option A → Option B → Option C
both_of f a b = option_and_then (λ x. option_map (f x) b) a
