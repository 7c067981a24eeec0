-- Which rows may be loaded into a program. It follows "How a bundle is read back" in docs/FORMATS.md. Versions of rows are
-- absent.
use Rattle.std.specs.Prelude.{ℕ, ◌+◌, ◌^◌, ◌==◌, ◌&&◌, ◌||◌, Bool, true, false, not, nat_lt, nat_le, List, [], ◌∷◌, ◌++◌, map, length, Option, Some, None}
use Rattle.cocoon_num.specs.Lists.{each, ascend, has_number, no_repeats}
use Rattle.p4_ir.specs.P4Tree.{P4Table, Program, KeyRow, TableRows, Group, RowsFile, meta_width}
use Rattle.p4_ir.specs.Switch.{table_numbered}

-- ---- numbers

-- a row has as many masks as values, and numbers are in their ranges
abbrev pub row_numbers_fit : KeyRow → Bool
row_numbers_fit w =
    (length w.values == length w.masks) && each (λ n. nat_lt n (2 ^ 64)) w.values && each (λ n. nat_lt n (2 ^ 64)) w.masks && nat_lt w.result (2 ^ 64)

abbrev pub table_numbers_fit : TableRows → Bool
table_numbers_fit t = nat_lt t.number (2 ^ 32) && nat_lt t.otherwise (2 ^ 64) && each row_numbers_fit t.rows

abbrev pub group_numbers_fit : Group → Bool
group_numbers_fit g = nat_lt g.number (2 ^ 16) && each (λ n. nat_lt n (2 ^ 64)) g.members

abbrev pub rows_file_fits : RowsFile → Bool
rows_file_fits r = each table_numbers_fit r.tables && each group_numbers_fit r.groups

-- ---- loading

-- a value and a mask of a key: both fit its width, and the mask of an exact key is all ones
abbrev pub key_fits : Bool → ℕ → ℕ → ℕ → Bool
key_fits exact width value mask = nat_lt value (2 ^ width) && nat_lt mask (2 ^ width) && (not exact || nat_le (2 ^ width) (mask + 1))

abbrev pub keys_fit : Program → Bool → List ℕ → List ℕ → List ℕ → Bool
keys_fit p exact [] [] [] = true
keys_fit p exact (i ∷ is) (v ∷ vs) (m ∷ ms) = key_fits exact (meta_width p i) v m && keys_fit p exact is vs ms
keys_fit p exact _ _ _ = false

abbrev pub row_fits : Program → P4Table → KeyRow → Bool
row_fits p t r = keys_fit p t.exact t.keys r.values r.masks && nat_lt r.result (2 ^ meta_width p t.result)

-- the rows are of a table that the program has, and fit it
abbrev pub table_rows_fit : Program → Option P4Table → TableRows → Bool
table_rows_fit p None r = false
table_rows_fit p (Some t) r = each (row_fits p t) r.rows && nat_lt r.otherwise (2 ^ meta_width p t.result)

abbrev pub all_tables : Program → List P4Table
all_tables p = p.ingress.tables ++ p.egress.tables

abbrev pub table_numbers : List TableRows → List ℕ
table_numbers ts = map (λ (t : TableRows). t.number) ts

-- a group has a number other than 0, and ascending members
abbrev pub group_fits : Group → Bool
group_fits g = not (g.number == 0) && ascend g.members

-- The rows fit the program: each table of the program is given once and no other is, rows fit their tables, and
-- groups have distinct numbers other than 0 and ascending members.
abbrev pub rows_load : Program → RowsFile → Bool
rows_load p r =
    no_repeats (table_numbers r.tables)
    && each (λ (t : P4Table). has_number t.number (table_numbers r.tables)) (all_tables p)
    && each (λ (t : TableRows). table_rows_fit p (table_numbered (all_tables p) t.number) t) r.tables
    && no_repeats (map (λ (g : Group). g.number) r.groups)
    && each group_fits r.groups
