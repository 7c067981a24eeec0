-- Cited by the clauses of `Terms`: terms over numbers of fixed widths, as trees.
-- It follows the section "Terms" of docs/CLAUSES.md.
use Rattle.std.specs.Prelude.{◌≡◌, ℕ, ◌+◌, ◌-◌, ◌^◌, ◌<◌, ◌≤◌, List, [], ◌∷◌}
use Rattle.bv_terms.specs.declared.node.TermOp.{TermOp}
use Rattle.bv_terms.specs.declared.node.TermOp.TheVariants.{Add, Sub, And, Or, Xor, Concat, Equal, Less}

mutual
  pub data Term : Type 0 where
    constant : (width n : ℕ) → Term
    -- an input is known by its number
    input : (number width : ℕ) → Term
    -- a run-time function at arguments
    apply : (f : ℕ) (args : Args) (width : ℕ) → Term
    not_ : (a : Term) → Term
    binary : (op : TermOp) (a b : Term) → Term
    slice : (a : Term) (high low : ℕ) → Term
    -- a where c is true, else b
    pick : (c a b : Term) → Term

  pub data Args : Type 0 where
    no_args : Args
    arg : (first : Term) (rest : Args) → Args

-- operators are told apart by these
abbrev pub op_number : TermOp → ℕ
op_number Add = 0
op_number Sub = 1
op_number And = 2
op_number Or = 3
op_number Xor = 4
op_number Concat = 5
op_number Equal = 6
op_number Less = 7

-- ---- widths

abbrev pub joined_width : TermOp → ℕ → ℕ → ℕ
joined_width Concat v w = v + w
joined_width Equal v w = 1
joined_width Less v w = 1
joined_width op v w = v

abbrev pub width : Term → ℕ
width (constant w n) = w
width (input i w) = w
width (apply f args w) = w
width (not_ a) = width a
width (binary op a b) = joined_width op (width a) (width b)
width (slice a high low) = high - low + 1
width (pick c a b) = width a

abbrev pub arg_widths : Args → List ℕ
arg_widths no_args = []
arg_widths (arg t ts) = width t ∷ arg_widths ts

-- ---- which trees are terms

abbrev pub IsWidth : ℕ → Type 0
IsWidth w = (1 ≤ w) × (w ≤ 128)

-- the operator has a value at operands of these widths
abbrev pub OperandsFit : TermOp → ℕ → ℕ → Type 0
OperandsFit Concat v w = v + w ≤ 128
OperandsFit op v w = v ≡ w

abbrev mutual
  pub IsTerm : Term → Type 0
  IsTerm (constant w n) = IsWidth w × (n < 2 ^ w)
  IsTerm (input i w) = IsWidth w
  IsTerm (apply f args w) = AreArgs args × IsWidth w
  IsTerm (not_ a) = IsTerm a
  IsTerm (binary op a b) = IsTerm a × IsTerm b × OperandsFit op (width a) (width b)
  IsTerm (slice a high low) = IsTerm a × (low ≤ high) × (high < width a)
  IsTerm (pick c a b) = IsTerm c × IsTerm a × IsTerm b × (width c ≡ 1) × (width a ≡ width b)

  -- an argument of a function has at most 64 bits
  pub AreArgs : Args → Type 0
  AreArgs no_args = Unit {0}
  AreArgs (arg t ts) = IsTerm t × (width t ≤ 64) × AreArgs ts
