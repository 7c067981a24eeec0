-- Cited by the clauses of `with_defs` and by laws: tables that fit the applications of a term.
use Rattle.std.specs.Prelude.{ℕ, List, Option, Some, None}
use Rattle.std.specs.List.{AllByRecursion, AllZip}
use Rattle.cocoon_num.specs.Values.{FitsWidth}
use Rattle.cocoon_num.specs.declared.fun_table.FunRow.{FunRow}
use Rattle.cocoon_num.specs.declared.fun_table.FunTable.{FunTable}
use Rattle.bv_terms.specs.TermTrees.{Term, Args, constant, input, apply, not_, binary, slice, pick, no_args, arg, arg_widths}
use Rattle.bv_terms.specs.Environments.{TableFits}
use Rattle.bv_terms.specs.WithRows.{Tables, table_of}

abbrev pub MasksFit : List ℕ → FunRow → Type 0
MasksFit widths row = AllZip FitsWidth widths row.masks

-- a table for arguments of these widths, with results of the width
abbrev pub CanStand : Option FunTable → (widths : List ℕ) → (w : ℕ) → Type 0
CanStand (Some t) widths w = TableFits t widths w × AllByRecursion (MasksFit widths) t.rows
CanStand None widths w = Unit {0}

abbrev mutual
  -- each function that the term applies has a table for its arguments, or none
  pub TablesFit : Tables → Term → Type 0
  TablesFit tables (constant w n) = Unit {0}
  TablesFit tables (input i w) = Unit {0}
  TablesFit tables (apply f args w) = TablesFitArgs tables args × CanStand (table_of tables f) (arg_widths args) w
  TablesFit tables (not_ a) = TablesFit tables a
  TablesFit tables (binary op a b) = TablesFit tables a × TablesFit tables b
  TablesFit tables (slice a high low) = TablesFit tables a
  TablesFit tables (pick c a b) = TablesFit tables c × TablesFit tables a × TablesFit tables b

  pub TablesFitArgs : Tables → Args → Type 0
  TablesFitArgs tables no_args = Unit {0}
  TablesFitArgs tables (arg t ts) = TablesFit tables t × TablesFitArgs tables ts
