-- Cited by the clauses of `NumberTable`: the place of a number among some.
use Rattle.std.specs.Prelude.{◌≡◌, ℕ, suc, ◌==◌, List, [], ◌∷◌, length, Option, Some, None, option_map, if◌then◌else◌}
use Rattle.std.specs.Ordering.{nat_cmp}
use Rattle.std.specs.BTreeMap.{get}
use Rattle.numbering.specs.declared.number_table.NumberTable.{NumberTable}

-- the index of a number, or how many there are
abbrev pub place_of : List ℕ → ℕ → ℕ
place_of [] n = 0
place_of (m ∷ ms) n = if m == n then 0 else suc (place_of ms n)

-- the index of a number, where it is there
abbrev pub first_place : ℕ → List ℕ → Option ℕ
first_place n [] = None
first_place n (m ∷ ms) = if m == n then Some 0 else option_map suc (first_place n ms)

-- the place that a table holds under a number
abbrev pub held_at : NumberTable → ℕ → Option ℕ
held_at t n = get nat_cmp t.held n

-- the same, or how many numbers there are
abbrev pub place_in : NumberTable → ℕ → ℕ
place_in t n = elim (held_at t n) [ None ↦ t.count | Some i ↦ i ]

-- a table of these numbers: each has the place at which it stands first
pub record HasPlaces (t : NumberTable) (numbers : List ℕ) : Type 0 where
  pub places : (n : ℕ) → held_at t n ≡ first_place n numbers
  pub count : t.count ≡ length numbers
