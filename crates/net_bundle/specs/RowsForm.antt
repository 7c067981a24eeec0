-- The form of a file of rows, member by member in ascending order of keys. The clauses of `read_rows` cite it. It follows
-- "How a bundle is read back" in docs/FORMATS.md. Versions of rows are absent.
use Rattle.std.specs.Prelude.{ℕ, ◌^◌, List, [], ◌∷◌, map, Option, Some, None, if◌then◌else◌, Result, Ok, Err, codes}
use Rattle.serde_json.specs.Data.{Data}
use Rattle.p4_ir.specs.P4Tree.{KeyRow, TableRows, Group, RowsFile}
use Rattle.json_forms.specs.Forms.{number_form, list_form, has_items, item_form, has_keys, member_form, both_of}

-- [NUMBER,[MEMBER]]
abbrev pub group_form : Data → Option Group
group_form d =
    if has_items 2 d
    then both_of (λ n ms. record { number = n; members = ms }) (item_form (number_form (2 ^ 16)) 0 d) (item_form (list_form (number_form (2 ^ 64))) 1 d)
    else None

-- [VALUE,MASK]
abbrev pub pair_form : Data → Option (ℕ × ℕ)
pair_form d =
    if has_items 2 d
    then both_of (λ v m. (v, m)) (item_form (number_form (2 ^ 64)) 0 d) (item_form (number_form (2 ^ 64)) 1 d)
    else None

abbrev pub row_keys : List (List ℕ)
row_keys = codes "key" ∷ codes "value" ∷ []

abbrev pub row_made : List (ℕ × ℕ) → ℕ → KeyRow
row_made pairs result = record { values = map (λ p. p.0) pairs; masks = map (λ p. p.1) pairs; result = result }

-- {"key":[[VALUE,MASK]],"value":V}
abbrev pub row_form : Data → Option KeyRow
row_form d =
    if has_keys row_keys d
    then both_of row_made (member_form (list_form pair_form) (codes "key") d) (member_form (number_form (2 ^ 64)) (codes "value") d)
    else None

abbrev pub table_keys : List (List ℕ)
table_keys = codes "default" ∷ codes "rows" ∷ codes "table" ∷ []

abbrev pub table_made : ℕ → List KeyRow × ℕ → TableRows
table_made default rest = record { number = rest.1; otherwise = default; rows = rest.0 }

-- {"default":V,"rows":[ROW],"table":NUMBER}
abbrev pub table_form : Data → Option TableRows
table_form d =
    if has_keys table_keys d
    then both_of table_made (member_form (number_form (2 ^ 64)) (codes "default") d)
    (both_of (λ rows number. (rows, number)) (member_form (list_form row_form) (codes "rows") d) (member_form (number_form (2 ^ 32)) (codes "table") d))
    else None

abbrev pub rows_keys : List (List ℕ)
rows_keys = codes "groups" ∷ codes "tables" ∷ []

-- both members, or the pointer of the first that is not of its form
abbrev pub rows_members : Option (List Group) → Option (List TableRows) → Result RowsFile (List ℕ)
rows_members None tables = Err (codes "/groups")
rows_members (Some groups) None = Err (codes "/tables")
rows_members (Some groups) (Some tables) = Ok (record { tables = tables; groups = groups })

-- {"groups":[GROUP],"tables":[TABLE]}: the file, or the pointer of the first member that is not of its form, with no text
-- for a value that is no object, lacks a key or has an unknown one
abbrev pub rows_form : Data → Result RowsFile (List ℕ)
rows_form d =
    if has_keys rows_keys d
    then rows_members (member_form (list_form group_form) (codes "groups") d) (member_form (list_form table_form) (codes "tables") d)
    else Err []
