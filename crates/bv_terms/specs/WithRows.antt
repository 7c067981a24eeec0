-- Cited by the clauses of `with_defs`: a term with choices over the rows of tables in the place of applications. It follows
-- the section "Tables in the place of functions" of docs/CLAUSES.md.
use Rattle.std.specs.Prelude.{ℕ, bit_and, List, [], ◌∷◌, Option, Some, None, option_and_then, slice_get}
use Rattle.cocoon_num.specs.declared.bits.Bits.{Bits}
use Rattle.cocoon_num.specs.declared.fun_table.FunRow.{FunRow}
use Rattle.cocoon_num.specs.declared.fun_table.FunTable.{FunTable}
use Rattle.bv_terms.specs.declared.node.TermOp.TheVariants.{And, Equal}
use Rattle.bv_terms.specs.TermTrees.{Term, Args, constant, input, apply, not_, binary, slice, pick, no_args, arg, width}
use Rattle.bv_terms.specs.Chains.{chain}

-- a place for each function
abbrev pub Tables : Type 0
Tables = List (Option FunTable)

abbrev pub table_of : Tables → ℕ → Option FunTable
table_of tables f = option_and_then (λ t. t) (slice_get tables f)

abbrev pub number_term : Bits → Term
number_term b = constant b.width b.value

-- ---- one row

-- the argument has the value in the bits of the mask
abbrev pub position_test : (value mask : ℕ) → Term → Term
position_test value mask t =
    binary Equal (binary And t (constant (width t) mask)) (constant (width t) (bit_and value mask))

abbrev pub position_tests : (values masks : List ℕ) → Args → List Term
position_tests (v ∷ vs) (m ∷ ms) (arg t ts) = position_test v m t ∷ position_tests vs ms ts
position_tests vs ms ts = []

-- each argument has its value in the bits of its mask. Without arguments that is true
abbrev pub row_test : FunRow → Args → Term
row_test row args = chain And (constant 1 1) (position_tests row.values row.masks args)

-- ---- the rows of a table

-- the first row is the outermost choice, the default the innermost
abbrev pub picks : List FunRow → (otherwise : Bits) → Args → Term
picks [] otherwise args = number_term otherwise
picks (row ∷ rows) otherwise args =
    pick (row_test row args) (number_term row.result) (picks rows otherwise args)

-- a function without a table stays an application
abbrev pub looked_up : Option FunTable → (f : ℕ) → Args → (width : ℕ) → Term
looked_up (Some t) f args w = picks t.rows t.default args
looked_up None f args w = apply f args w

-- ---- a term

abbrev mutual
  pub with_rows : Tables → Term → Term
  with_rows tables (constant w n) = constant w n
  with_rows tables (input i w) = input i w
  with_rows tables (apply f args w) = looked_up (table_of tables f) f (args_with_rows tables args) w
  with_rows tables (not_ a) = not_ (with_rows tables a)
  with_rows tables (binary op a b) = binary op (with_rows tables a) (with_rows tables b)
  with_rows tables (slice a high low) = slice (with_rows tables a) high low
  with_rows tables (pick c a b) = pick (with_rows tables c) (with_rows tables a) (with_rows tables b)

  pub args_with_rows : Tables → Args → Args
  args_with_rows tables no_args = no_args
  args_with_rows tables (arg t ts) = arg (with_rows tables t) (args_with_rows tables ts)
