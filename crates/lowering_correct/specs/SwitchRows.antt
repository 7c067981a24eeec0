-- Cited by the clauses of `lower` and by all laws of lowering: the rows of a switch's tables, and its groups. It follows
-- "Lowering and the P4 text" and "Bundle files" in docs/FORMATS.md.
use Rattle.std.specs.Prelude.{ℕ, suc, List, [], ◌∷◌, ◌++◌, map, flat_map, bit_and, if◌then◌else◌, Option, Some, None}
use Rattle.cocoon_num.specs.Names.{same_name}
use Rattle.cocoon_num.specs.Tree.{Design}
use Rattle.cocoon_num.specs.declared.fun_table.FunRow.{FunRow}
use Rattle.cocoon_num.specs.declared.fun_table.FunTable.{FunTable}
use Rattle.cocoon_types.specs.Design.{widths_of}
use Rattle.runtime_defs.specs.Printable.{all_ones}
use Rattle.p4_ir.specs.P4Tree.{Group, KeyRow, RowsFile, TableRows}
use Rattle.lowering.specs.Lower.{Made, a_field, a_table, a_group}
use Rattle.runtime_defs.specs.Guards.{table_named}
use Rattle.runtime_defs.specs.Places.{Places}
use Rattle.lowering_correct.specs.Groups.{ForkGroup, fork_groups}

-- ---- the table of a function

-- the bits of the values that the masks compare
abbrev pub masked : List ℕ → List ℕ → List ℕ
masked (v ∷ vs) (m ∷ ms) = bit_and v m ∷ masked vs ms
masked _ _ = []

abbrev pub key_row : FunRow → KeyRow
key_row row = record { values = masked row.values row.masks; masks = row.masks; result = row.result.value }

-- the function's rows in the order of its text, and its default
abbrev pub function_rows : ℕ → Option FunTable → TableRows
function_rows n None = record { number = n; otherwise = 0; rows = [] }
function_rows n (Some t) = record { number = n; otherwise = t.default.value; rows = map key_row t.rows }

-- ---- the table of a fork

-- a row for each group of the function, where groups are numbered from k
abbrev pub rows_from : (masks : List ℕ) → ℕ → List ForkGroup → List ℕ → List KeyRow
rows_from masks k [] f = []
rows_from masks k (g ∷ gs) f =
    (if same_name f g.function then record { values = g.grouped.args; masks = masks; result = k } ∷ [] else []) ++ rows_from masks (suc k) gs f

-- ---- all rows

abbrev pub made_rows : Design → Places → Made → List TableRows
made_rows d places (a_field x i w) = []
made_rows d places (a_table t f ps) = function_rows t.number (table_named d places f) ∷ []
made_rows d places (a_group t f ps) =
    record { number = t.number; otherwise = 0; rows = rows_from (all_ones (widths_of ps)) 1 (fork_groups d places) f } ∷ []

-- the groups, numbered from k
abbrev pub groups_from : ℕ → List ForkGroup → List Group
groups_from k [] = []
groups_from k (g ∷ gs) = record { number = k; members = g.grouped.members } ∷ groups_from (suc k) gs

-- the rows of a program that has these tables, and the groups
abbrev pub switch_rows : Design → Places → List Made → RowsFile
switch_rows d places made = record {
  tables = flat_map (made_rows d places) made;
  groups = groups_from 1 (fork_groups d places);
}
