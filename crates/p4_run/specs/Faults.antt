-- Cited by the clauses of `Loaded::new` and of a law: why rows are not loaded into a program, by the tests of loading in their
-- order. It follows "How a bundle is read back" in docs/FORMATS.md. There is a fault exactly where the rows do not load.
use Rattle.std.specs.Prelude.{ℕ, suc, ◌^◌, ◌&&◌, not, nat_lt, List, [], ◌∷◌, ◌++◌, length, if◌then◌else◌, Option, Some, None, option_map}
use Rattle.cocoon_num.specs.Lists.{has_number}
use Rattle.p4_ir.specs.P4Kinds.{numbers_of}
use Rattle.p4_ir.specs.P4Tree.{P4Table, Program, KeyRow, TableRows, Group, RowsFile, meta_width}
use Rattle.p4_ir.specs.Switch.{table_numbered}
use Rattle.p4_ir.specs.Loading.{all_tables, group_fits, row_fits, table_numbers}

pub data Fault : Type 0 where
  -- rows are given of a table that the program has not, or that has them already
  unknown_table : (number : ℕ) → Fault
  -- a table is given no rows
  missing_table : (number : ℕ) → Fault
  -- a row of a table does not fit it; the default is the row after the last
  row_shape : (table row : ℕ) → Fault
  -- a group has the number 0, or that of a group before it, or its members do not ascend
  group_shape : (index : ℕ) → Fault

abbrev pub or_else : {A : Type 0} → Option A → Option A → Option A
or_else (Some x) other = Some x
or_else None other = other

-- ---- tables

-- the first number that is not one of these, or that stands before it, too
abbrev pub first_unknown : (numbers before : List ℕ) → List TableRows → Option ℕ
first_unknown numbers before [] = None
first_unknown numbers before (t ∷ ts) =
    if has_number t.number numbers && not (has_number t.number before) then first_unknown numbers (before ++ t.number ∷ []) ts
    else Some t.number

-- the first table that is not given
abbrev pub first_missing : (given : List ℕ) → List P4Table → Option ℕ
first_missing given [] = None
first_missing given (t ∷ ts) = if has_number t.number given then first_missing given ts else Some t.number

-- ---- rows

-- the first row that does not fit, counted from i
abbrev pub first_unfit : Program → P4Table → ℕ → List KeyRow → Option ℕ
first_unfit p t i [] = None
first_unfit p t i (row ∷ rows) = if row_fits p t row then first_unfit p t (suc i) rows else Some i

-- the default's row, where it does not fit
abbrev pub unfit_default : Program → P4Table → TableRows → Option ℕ
unfit_default p t r = if nat_lt r.otherwise (2 ^ meta_width p t.result) then None else Some (length r.rows)

abbrev pub unfit_row : Program → Option P4Table → TableRows → Option ℕ
unfit_row p None r = None
unfit_row p (Some t) r = or_else (first_unfit p t 0 r.rows) (unfit_default p t r)

-- a table and its first row that does not fit
abbrev pub first_row_shape : Program → List TableRows → Option Fault
first_row_shape p [] = None
first_row_shape p (t ∷ ts) =
    or_else (option_map (row_shape t.number) (unfit_row p (table_numbered (all_tables p) t.number) t)) (first_row_shape p ts)

-- ---- groups

-- the first group that is not of its form, counted from i, with the numbers of those before it
abbrev pub first_group_shape : (before : List ℕ) → ℕ → List Group → Option ℕ
first_group_shape before i [] = None
first_group_shape before i (g ∷ gs) =
    if not (has_number g.number before) && group_fits g then first_group_shape (before ++ g.number ∷ []) (suc i) gs
    else Some i

-- ---- all

-- The first fault, if there is one. The numbers of a program's tables ascend, so the first that is missing is the least.
abbrev pub load_fault : Program → RowsFile → Option Fault
load_fault p r =
    or_else (option_map unknown_table (first_unknown (numbers_of (all_tables p)) [] r.tables))
    (or_else (option_map missing_table (first_missing (table_numbers r.tables) (all_tables p)))
    (or_else (first_row_shape p r.tables)
    (option_map group_shape (first_group_shape [] 0 r.groups))))
