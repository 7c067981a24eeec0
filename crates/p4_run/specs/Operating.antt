-- Cited by the clauses of operators and of resolving: the type and the value of what was resolved, and what an operator
-- makes of operands that are resolved.
use Rattle.std.specs.Prelude.{◌≡◌, ℕ, ◌<◌, ◌^◌, Bool, true, false, Option, Some, None}
use Rattle.cocoon_num.specs.Sorts.{Sort, bits_sort, truth_sort, unary_sort, work_sort, slice_sort, pick_sort}
use Rattle.cocoon_num.specs.Values.{Value, number, truth, UnaryOp, Work, computes, compares, combines, joins, worked, apply_unary, apply_slice, apply_pick}
use Rattle.p4_run.specs.Held.{Held}
use Rattle.p4_run.specs.Meaning.{number_by, truth_by}
use Rattle.p4_run.specs.declared.expr_codes.NumberCode.{NumberCode}
use Rattle.p4_run.specs.declared.expr_codes.TruthCode.{TruthCode}
use Rattle.p4_run.specs.declared.resolved.Resolved.{Resolved}
use Rattle.p4_run.specs.declared.resolved.Resolved.TheVariants.{Number, Truth}

abbrev pub sort_of : Resolved → Sort
sort_of (Number n) = bits_sort n.width
sort_of (Truth t) = truth_sort

abbrev pub value_in : Held → Resolved → Value
value_in r (Number n) = number n.width (number_by n.code r)
value_in r (Truth t) = truth (truth_by t r)

-- a number is below the power of its width
abbrev pub IsBounded : Held → Resolved → Type 0
IsBounded r (Number n) = number_by n.code r < 2 ^ n.width
IsBounded r (Truth t) = Unit {0}

-- there is a type
abbrev pub IsSorted : Option Sort → Type 0
IsSorted None = ⊥
IsSorted (Some s) = Unit {0}

-- the value is what was made, and bounded
pub record Gives (r : Held) (made : Resolved) (v : Option Value) : Type 0 where
  pub is : v ≡ Some (value_in r made)
  pub bounded : IsBounded r made

-- ---- operators

pub record OfOne (op : UnaryOp) (a made : Resolved) : Type 0 where
  pub sort : unary_sort op (sort_of a) ≡ Some (sort_of made)
  pub value : (r : Held) → IsBounded r a → Gives r made (apply_unary op (value_in r a))

pub record OfTwo (k : Work) (a b made : Resolved) : Type 0 where
  pub sort : work_sort k (sort_of a) (sort_of b) ≡ Some (sort_of made)
  pub value : (r : Held) → IsBounded r a → IsBounded r b → Gives r made (worked k (value_in r a) (value_in r b))

pub record OfSlice (high low : ℕ) (a made : Resolved) : Type 0 where
  pub sort : slice_sort (sort_of a) high low ≡ Some (sort_of made)
  pub value : (r : Held) → IsBounded r a → Gives r made (apply_slice (value_in r a) high low)

pub record OfThree (c a b made : Resolved) : Type 0 where
  pub sort : pick_sort (sort_of c) (sort_of a) (sort_of b) ≡ Some (sort_of made)
  pub value : (r : Held) → IsBounded r a → IsBounded r b → Gives r made (apply_pick (value_in r c) (value_in r a) (value_in r b))

-- ---- operators with two numbers of one width

abbrev pub computing : Work → Bool
computing (computes f) = true
computing (compares f) = false
computing (combines f) = false
computing joins = false

abbrev pub comparing : Work → Bool
comparing (computes f) = false
comparing (compares f) = true
comparing (combines f) = false
comparing joins = false

abbrev pub Computes : Work → ℕ → (a b made : NumberCode) → Type 0
Computes (computes f) w a b made =
    (r : Held) → number_by a r < 2 ^ w → number_by b r < 2 ^ w
    → (number_by made r ≡ f w (number_by a r) (number_by b r)) × (number_by made r < 2 ^ w)
Computes _ w a b made = ⊥

abbrev pub Compares : Work → (a b : NumberCode) → (made : TruthCode) → Type 0
Compares (compares f) a b made = (r : Held) → truth_by made r ≡ f (number_by a r) (number_by b r)
Compares _ a b made = ⊥
