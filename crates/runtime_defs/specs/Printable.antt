-- Cited by the conditions of `print_defs` and of the laws: of which tables there are definitions. It follows the
-- sections "Texts" and "Definitions" of docs/LANGUAGE.md.
use Rattle.std.specs.Prelude.{◌≡◌, ℕ, ◌-◌, ◌^◌, ◌&&◌, Bool, true, false, List, [], ◌∷◌, ◌++◌, All, map, bit_and, is_some, slice_get, Option, Some, None, option_and_then}
use Rattle.std.specs.List.{AllZip}
use Rattle.cocoon_num.specs.Lists.{is_one_of}
use Rattle.cocoon_num.specs.Tree.{FunctionDecl, ResultKind, of_width, of_truth, Design}
use Rattle.cocoon_num.specs.Values.{fits_width, truth}
use Rattle.cocoon_num.specs.declared.fun_table.FunRow.{FunRow}
use Rattle.cocoon_num.specs.declared.fun_table.FunTable.{FunTable}
use Rattle.cocoon_types.specs.DefsRules.{fork_calls, guard_calls}
use Rattle.cocoon_types.specs.Design.{functions, widths_of}
use Rattle.runtime_defs.specs.EntryPlaces.{result_value}

-- ---- tables

-- the numbers fit these widths, and are as many
abbrev pub all_fit_widths : List ℕ → List ℕ → Bool
all_fit_widths [] [] = true
all_fit_widths (w ∷ ws) (n ∷ ns) = fits_width w n && all_fit_widths ws ns
all_fit_widths _ _ = false

-- the width of a result: a truth value is a number of width 1
abbrev pub result_width : ResultKind → ℕ
result_width (of_width w) = w
result_width of_truth = 1

-- a row has a value and a mask for each of these widths, which fit it, and a result of this width
pub record FitsRow (widths : List ℕ) (width : ℕ) (row : FunRow) : Type 0 where
  pub values_fit : all_fit_widths widths row.values ≡ true
  pub masks_fit : all_fit_widths widths row.masks ≡ true
  pub result_is : row.result.width ≡ width

-- a table has the widths of the function's parameters, and rows and a default of its result
pub record FitsFunction (f : FunctionDecl) (t : FunTable) : Type 0 where
  pub widths_are : t.widths ≡ widths_of f.params
  pub rows_fit : All (FitsRow t.widths (result_width f.result)) t.rows
  pub default_is : t.default.width ≡ result_width f.result

-- what stands at the place of a function: a table that fits it, or nothing where it has a body
abbrev pub FitsPlace : FunctionDecl → Option FunTable → Type 0
FitsPlace f None = is_some f.body ≡ true
FitsPlace f (Some t) = (f.body ≡ None) × FitsFunction f t

-- ---- masks

-- no value has a bit that its mask does not compare
abbrev pub AreMasked : (values masks : List ℕ) → Type 0
AreMasked [] [] = Unit {0}
AreMasked (v ∷ vs) (m ∷ ms) = (bit_and v m ≡ v) × AreMasked vs ms
AreMasked _ _ = ⊥

-- so it is in each row of a table, where there is one
abbrev pub IsMasked : Option FunTable → Type 0
IsMasked None = Unit {0}
IsMasked (Some t) = All (λ (row : FunRow). AreMasked row.values row.masks) t.rows

-- ---- literal rows

-- masks of ones alone
abbrev pub all_ones : List ℕ → List ℕ
all_ones widths = map (λ w. 2 ^ w - 1) widths

-- the default of a function's table is the truth value false, and each of its rows compares all bits
pub record IsLiteral (f : FunctionDecl) (t : FunTable) : Type 0 where
  pub default_false : result_value f.result t.default ≡ truth false
  pub masks_ones : All (λ (row : FunRow). row.masks ≡ all_ones t.widths) t.rows

-- the functions of guards, and of forks of the last level
abbrev pub literal_functions : Design → List (List ℕ)
literal_functions d = guard_calls d ++ fork_calls d

-- ---- all tables

-- the table of the function of a number, if it has one
abbrev pub table_at : List (Option FunTable) → ℕ → Option FunTable
table_at tables n = option_and_then (λ (t : Option FunTable). t) (slice_get tables n)

-- these are definitions of the design
pub record FitsDesign (d : Design) (tables : List (Option FunTable)) : Type 0 where
  pub places : AllZip FitsPlace (functions d) tables
  pub literal : (n : ℕ) (f : FunctionDecl) (t : FunTable) → slice_get (functions d) n ≡ Some f → table_at tables n ≡ Some t
      → is_one_of (literal_functions d) f.name.text ≡ true → IsLiteral f t
