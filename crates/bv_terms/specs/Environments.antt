-- Cited by the clauses of `Terms::eval`: what an environment gives, and what it must have for a term.
use Rattle.std.specs.Prelude.{◌≡◌, ℕ, List, All, length, Option, Some, option_map, slice_get, unwrap_or, option_and_then}
use Rattle.cocoon_num.specs.declared.bits.Bits.{Bits}
use Rattle.cocoon_num.specs.declared.fun_table.FunRow.{FunRow}
use Rattle.cocoon_num.specs.declared.fun_table.FunTable.{FunTable}
use Rattle.cocoon_num.specs.FunTables.{HasKeys, looked}
use Rattle.bv_terms.specs.declared.eval.Env.{Env}
use Rattle.bv_terms.specs.TermTrees.{Term, Args, constant, input, apply, not_, binary, slice, pick, no_args, arg, arg_widths}
use Rattle.bv_terms.specs.TermValues.{Inputs, Functions}

-- ---- what it gives

-- what is not there is 0
abbrev pub inputs_of : Env → Inputs
inputs_of env i = unwrap_or (option_map (λ (b : Bits). b.value) (slice_get env.inputs i)) 0

abbrev pub function_table : Env → ℕ → Option FunTable
function_table env f = option_and_then (λ t. t) (slice_get env.tables f)

abbrev pub functions_of : Env → Functions
functions_of env f xs = unwrap_or (option_map (λ t. (looked t xs).value) (function_table env f)) 0

-- ---- what it must have

abbrev pub HasInput : Env → ℕ → ℕ → Type 0
HasInput env i w = (b : Bits) × (slice_get env.inputs i ≡ Some b) × (b.width ≡ w)

abbrev pub RowFits : (count width : ℕ) → FunRow → Type 0
RowFits count w row = HasKeys count row × (row.result.width ≡ w)

-- a table for arguments of these widths, whose results have the width
pub record TableFits (t : FunTable) (widths : List ℕ) (w : ℕ) : Type 0 where
  pub args : t.widths ≡ widths
  pub rows : All (RowFits (length widths) w) t.rows
  pub otherwise : t.default.width ≡ w

abbrev pub HasTable : Env → ℕ → List ℕ → ℕ → Type 0
HasTable env f widths w = (t : FunTable) × (function_table env f ≡ Some t) × TableFits t widths w

abbrev mutual
  -- each input of the term with its width, and a table for each function that it applies
  pub Covers : Env → Term → Type 0
  Covers env (constant w n) = Unit {0}
  Covers env (input i w) = HasInput env i w
  Covers env (apply f args w) = CoversArgs env args × HasTable env f (arg_widths args) w
  Covers env (not_ a) = Covers env a
  Covers env (binary op a b) = Covers env a × Covers env b
  Covers env (slice a high low) = Covers env a
  Covers env (pick c a b) = Covers env c × Covers env a × Covers env b

  pub CoversArgs : Env → Args → Type 0
  CoversArgs env no_args = Unit {0}
  CoversArgs env (arg t ts) = Covers env t × CoversArgs env ts
