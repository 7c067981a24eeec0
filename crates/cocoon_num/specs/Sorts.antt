-- The types of expressions: a width, or truth. It follows the section "Rules of a design" of docs/LANGUAGE.md; operands
-- of P4 programs have the same types.
use Rattle.std.specs.Prelude.{ℕ, ◌+◌, ◌-◌, ◌==◌, ◌&&◌, nat_le, nat_lt, Bool, true, false, if◌then◌else◌, Option, Some, None}
use Rattle.cocoon_num.specs.Values.{UnaryOp, flip, not_, BinaryOp, Work, computes, compares, combines, joins, work}

pub data Sort : Type 0 where
  bits_sort : (width : ℕ) → Sort
  truth_sort : Sort

-- widths that may be declared
abbrev pub is_declared_width : ℕ → Bool
is_declared_width w = nat_le 1 w && nat_le w 64

abbrev pub same_sort : Sort → Sort → Bool
same_sort (bits_sort v) (bits_sort w) = v == w
same_sort truth_sort truth_sort = true
same_sort _ _ = false

abbrev pub unary_sort : UnaryOp → Sort → Option Sort
unary_sort flip (bits_sort w) = Some (bits_sort w)
unary_sort not_ truth_sort = Some truth_sort
unary_sort _ _ = None

-- what an operator's work has of operands of these types
abbrev pub work_sort : Work → Sort → Sort → Option Sort
work_sort (computes f) (bits_sort v) (bits_sort w) = if v == w then Some (bits_sort w) else None
work_sort (compares f) (bits_sort v) (bits_sort w) = if v == w then Some truth_sort else None
work_sort (combines f) truth_sort truth_sort = Some truth_sort
work_sort joins (bits_sort v) (bits_sort w) = if nat_le (v + w) 128 then Some (bits_sort (v + w)) else None
work_sort _ _ _ = None

abbrev pub binary_sort : BinaryOp → Sort → Sort → Option Sort
binary_sort op = work_sort (work op)

abbrev pub slice_sort : Sort → ℕ → ℕ → Option Sort
slice_sort (bits_sort w) high low = if nat_le low high && nat_lt high w then Some (bits_sort (high - low + 1)) else None
slice_sort truth_sort high low = None

abbrev pub pick_sort : Sort → Sort → Sort → Option Sort
pick_sort truth_sort s t = if same_sort s t then Some s else None
pick_sort (bits_sort w) s t = None

abbrev pub has_sort : Sort → Option Sort → Bool
has_sort s None = false
has_sort s (Some t) = same_sort s t

-- both have one type
abbrev pub are_same : Option Sort → Option Sort → Bool
are_same s t = elim s [ None ↦ false | Some sort ↦ has_sort sort t ]
