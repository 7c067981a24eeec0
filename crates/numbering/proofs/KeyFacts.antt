-- Keys are kept as names are, so a table of keys is one of names.
use Rattle.std.proofs.Common.{◌≡◌, ℕ, suc, ◌+◌, true, List, [], ◌∷◌, ◌++◌, Some, None, if◌then◌else◌, is_some, refl, sym, ap, ◌∙◌, Vec, Global, BTreeMap}
use Rattle.std.specs.Prelude.{option_map}
use Rattle.std.specs.BTreeMap.{UpdatesBy}
use Rattle.cocoon_num.specs.Names.{same_name}
use Rattle.numbering.specs.NameNumbers.{index_of, Numbers}
use Rattle.numbering.specs.declared.name_table.NameTable.{NameTable}
use Rattle.numbering.proofs.NameFacts.{key_cmp, names-new, names-old}
use Rattle.numbering.specs.declared.key_table.KeyTable.{KeyTable}
use Rattle.numbering.specs.KeyPlaces.{first_place, place_in, Holds}

first-index : (x : List ℕ) (ks : List (List ℕ)) → first_place x ks ≡ index_of x ks
first-index x [] = refl
first-index x (k ∷ ks) = ap (λ o. if same_name x k then Some 0 else option_map suc o) (first-index x ks)

abbrev of_names : KeyTable → NameTable
of_names t = record { held = t.held; count = t.count }

to-numbers : (t : KeyTable) (ks : List (List ℕ)) → Holds t ks → Numbers (of_names t) ks
to-numbers t ks h = record { numbers = λ x. h.places x ∙ first-index x ks; count = h.count }

from-numbers : (t : KeyTable) (ks : List (List ℕ)) → Numbers (of_names t) ks → Holds t ks
from-numbers t ks h = record { places = λ x. h.numbers x ∙ sym (first-index x ks); count = h.count }

-- a key that is not there
pub keys-new : (old : KeyTable) (held : BTreeMap (Vec ℕ Global) ℕ) (next : ℕ) (k : Vec ℕ Global) (x : List ℕ) (ks : List (List ℕ))
    → Holds old ks → place_in old x ≡ None → k.items ≡ x → UpdatesBy key_cmp (key_cmp k) old.held held (Some old.count) → next ≡ old.count + 1
    → Holds (record { held = held; count = next }) (ks ++ x ∷ [])
keys-new old held next k x ks h none same up more =
    from-numbers (record { held = held; count = next }) (ks ++ x ∷ []) (names-new (of_names old) held next k x ks (to-numbers old ks h) none same up more)

-- a key that is there
pub keys-old : (old : KeyTable) (next : ℕ) (x : List ℕ) (ks : List (List ℕ))
    → Holds old ks → is_some (place_in old x) ≡ true → next ≡ old.count + 1
    → Holds (record { held = old.held; count = next }) (ks ++ x ∷ [])
keys-old old next x ks h some more =
    from-numbers (record { held = old.held; count = next }) (ks ++ x ∷ []) (names-old (of_names old) next x ks (to-numbers old ks h) some more)
