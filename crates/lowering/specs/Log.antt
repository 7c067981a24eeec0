-- Cited by `all_numbered`. The log of what was made, as a list in order: meta fields by consecutive numbers, and
-- tables; and forks.
use Rattle.std.specs.Prelude.{◌≡◌, ℕ, suc, List, [], ◌∷◌, slice_get, Some}
use Rattle.p4_ir.specs.P4Tree.{P4Expr, P4Table}
use Rattle.lowering.specs.Lower.{Counts, Made, a_field, a_table, a_group, Callees}
use Rattle.lowering.specs.LowerBlock.{Site}

abbrev pub widths_in : List Made → List ℕ
widths_in [] = []
widths_in (a_field x i w ∷ ms) = w ∷ widths_in ms
widths_in (a_table t f ps ∷ ms) = widths_in ms
widths_in (a_group t f ps ∷ ms) = widths_in ms

abbrev pub tables_in : List Made → List P4Table
tables_in [] = []
tables_in (a_field x i w ∷ ms) = tables_in ms
tables_in (a_table t f ps ∷ ms) = t ∷ tables_in ms
tables_in (a_group t f ps ∷ ms) = t ∷ tables_in ms

-- fields from i and tables from a, up to j and b
abbrev pub Placed : ℕ → ℕ → List Made → ℕ → ℕ → Type 0
Placed i a [] j b = (i ≡ j) × (a ≡ b)
Placed i a (a_field x k w ∷ ms) j b = (k ≡ i) × Placed (suc i) a ms j b
Placed i a (a_table t f ps ∷ ms) j b = (t.number ≡ a) × Placed i (suc a) ms j b
Placed i a (a_group t f ps ∷ ms) j b = (t.number ≡ a) × Placed i (suc a) ms j b

-- forks from k up to j
abbrev pub NumberedTo : ℕ → List Site → ℕ → Type 0
NumberedTo k [] j = k ≡ j
NumberedTo k (x ∷ xs) j = (x.number ≡ k) × NumberedTo (suc k) xs j

pub record Grown (n : Counts) (made : List Made) (next : Counts) : Type 0 where
  pub placed : Placed n.field n.app made next.field next.app
  pub site : next.site ≡ n.site

abbrev pub CallsGrow : Callees → Type 0
CallsGrow c = ((f : List ℕ) (es : List P4Expr) (n : Counts) → Grown n (c.call f es n).made (c.call f es n).next)
    × ((f : List ℕ) (es : List P4Expr) (n : Counts) → Grown n (c.group f es n).made (c.group f es n).next)

-- each field is at its number
abbrev pub FieldsAt : List ℕ → List Made → Type 0
FieldsAt widths [] = Unit {0}
FieldsAt widths (a_field x i w ∷ ms) = (slice_get widths i ≡ Some w) × FieldsAt widths ms
FieldsAt widths (a_table t f ps ∷ ms) = FieldsAt widths ms
FieldsAt widths (a_group t f ps ∷ ms) = FieldsAt widths ms
