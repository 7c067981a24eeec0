-- Cited by the clauses of `TermMap`: the value for a term.
use Rattle.std.specs.Prelude.{◌≡◌, ◌≢◌, ℕ, ◌-◌, nat_lt, if◌then◌else◌, Option, None, Some, length, slice_index_or}
use Rattle.std.specs.Ordering.{nat_cmp}
use Rattle.std.specs.BTreeMap.{get}
use Rattle.bv_terms.specs.declared.term_map.TermMap.{TermMap}

-- the place of a number in the range
abbrev pub place_in : {T : Type 0} → TermMap T → ℕ → Option ℕ
place_in map k =
    if nat_lt k map.first then None
    else if nat_lt (k - map.first) (length map.near.items) then Some (k - map.first)
    else None

-- the value at a place of the range, or outside of it
abbrev pub value_by : {T : Type 0} → TermMap T → ℕ → Option ℕ → Option T
value_by map k (Some place) = slice_index_or map.near.items place None
value_by map k None = get nat_cmp map.far k

-- the value for a term
abbrev pub value_at : {T : Type 0} → TermMap T → ℕ → Option T
value_at map k = value_by map k (place_in map k)

-- a term has got this value, and the others have theirs
pub record IsSet {T : Type 0} (old new : TermMap T) (k : ℕ) (value : T) : Type 0 where
  pub itself : value_at new k ≡ Some value
  pub others : (q : ℕ) → k ≢ q → value_at new q ≡ value_at old q
