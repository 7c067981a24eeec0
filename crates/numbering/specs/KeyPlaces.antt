-- Cited by the clauses of `KeyTable`: the place of a key among some.
use Rattle.std.specs.Prelude.{◌≡◌, ℕ, suc, List, [], ◌∷◌, length, Option, Some, None, option_map, if◌then◌else◌}
use Rattle.std.specs.Ordering.{nat_cmp}
use Rattle.std.specs.Cmp.Lexicographic.{slice_cmp}
use Rattle.std.specs.BTreeMap.{get_by}
use Rattle.cocoon_num.specs.Names.{same_name}
use Rattle.numbering.specs.declared.key_table.KeyTable.{KeyTable}

-- the place of the first of some keys that is x
abbrev pub first_place : List ℕ → List (List ℕ) → Option ℕ
first_place x [] = None
first_place x (k ∷ ks) = if same_name x k then Some 0 else option_map suc (first_place x ks)

-- the place that a table has under a key
abbrev pub place_in : KeyTable → List ℕ → Option ℕ
place_in t x = get_by (λ k. slice_cmp nat_cmp x k.items) t.held

-- a table of these keys: each has the place at which it stands first
pub record Holds (t : KeyTable) (keys : List (List ℕ)) : Type 0 where
  pub places : (x : List ℕ) → place_in t x ≡ first_place x keys
  pub count : t.count ≡ length keys
