-- How long the text of a file of rows is at least.
use Rattle.std.proofs.Common.{◌≡◌, ℕ, zero, suc, ◌+◌, ◌*◌, ◌/◌, ◌%◌, ◌==◌, ◌≤◌, ◌<◌, Bool, true, false, if◌then◌else◌, List, [], ◌∷◌, ◌++◌, length, map, flat_map, codes, decimal, ap, ◌∙◌, arith}
use Rattle.std.specs.Fmt.{digits, digits_onto, digit_glyph}
use Rattle.std.proofs.lemmas.List.{length-append}
use Rattle.serde_json.specs.Data.{Data, array, Items, no_items, item}
use Rattle.serde_json.specs.View.{items_of}
use Rattle.serde_json.specs.Written.{comma_if, compact_text, items_text}
use Rattle.serde_json.proofs.OnLiterals.{serde_json_on_literals}
use Rattle.p4_ir.specs.P4Tree.{KeyRow, TableRows, RowsFile}
use Rattle.net_bundle.specs.Bundle.{rows_text}
use Rattle.json_forms.specs.Values.{array_data}
use Rattle.net_bundle.specs.NetJson.{key_data, row_data, table_data, group_data}

-- ---- lists

of_three : (a b c : List ℕ) → length (a ++ (b ++ c)) ≡ length a + (length b + length c)
of_three a b c = length-append a (b ++ c) ∙ ap (λ n. length a + n) (length-append b c)

-- ---- a number has a digit

digits_some : (k n : ℕ) (acc : List ℕ) → length acc < length (digits_onto (suc k) 10 false n acc)
digits_some zero n acc = by_case (n / 10 == 0)
  where
    by_case : (b : Bool) → length acc < length (if b then digit_glyph false (n % 10) ∷ acc else digit_glyph false (n % 10) ∷ acc)
    by_case true = omega arith
    by_case false = omega arith
digits_some (suc k) n acc = by_case (n / 10 == 0) (digits_some k (n / 10) (digit_glyph false (n % 10) ∷ acc))
  where
    by_case : (b : Bool) → suc (length acc) < length (digits_onto (suc k) 10 false (n / 10) (digit_glyph false (n % 10) ∷ acc))
        → length acc < length (if b then digit_glyph false (n % 10) ∷ acc else digits_onto (suc k) 10 false (n / 10) (digit_glyph false (n % 10) ∷ acc))
    by_case true h = omega arith
    by_case false h = omega (arith, h)

decimal_some : (n : ℕ) → 1 ≤ length (decimal n)
unfolding digits
decimal_some n = digits_some 63 n []

-- ---- rows

-- a value at the head of an array
first_item : (later : Bool) (d : Data) (ds : Items) → length (compact_text d) + length (items_text true ds) ≤ length (items_text later (item d ds))
first_item later d ds =
    let a : length (items_text later (item d ds)) ≡ length (comma_if later) + (length (compact_text d) + length (items_text true ds))
    = of_three (comma_if later) (compact_text d) (items_text true ds) in
    omega arith

-- an array has its closing bracket
closed : (later : Bool) (ds : Items) → 1 ≤ length (items_text later ds)
closed later no_items = omega arith
closed later (item d ds) =
    let a : length (compact_text d) + length (items_text true ds) ≤ length (items_text later (item d ds)) = first_item later d ds in
    let h : 1 ≤ length (items_text true ds) = closed true ds in
    omega arith

-- with the marks around its key and its value
in_row : (x y : List ℕ) → length x + length y + 17 ≤ length (codes "{\"key\":" ++ (x ++ (codes ",\"value\":" ++ (y ++ codes "}"))))
in_row x y =
    let a : length (x ++ (codes ",\"value\":" ++ (y ++ codes "}"))) ≡ length x + (9 + length (y ++ codes "}")) = of_three x (codes ",\"value\":") (y ++ codes "}") in
    let b : length (y ++ codes "}") ≡ length y + 1 = length-append y (codes "}") in
    omega arith

row_long : (r : KeyRow) → 20 ≤ length (compact_text (row_data r))
unfolding serde_json_on_literals
row_long r =
    let key = compact_text (array (key_data r.values r.masks)) in
    let h : length key + length (decimal r.result) + 17 ≤ length (compact_text (row_data r)) = in_row key (decimal r.result) in
    let k : 1 ≤ length (items_text false (key_data r.values r.masks)) = closed false (key_data r.values r.masks) in
    let d : 1 ≤ length (decimal r.result) = decimal_some r.result in
    omega arith

rows_long : (later : Bool) (rs : List KeyRow) → 20 * length rs ≤ length (items_text later (items_of (map row_data rs)))
rows_long later [] = omega arith
rows_long later (r ∷ rs) =
    let ds = items_of (map row_data rs) in
    let rest = items_text true ds in
    let a : length (compact_text (row_data r)) + length rest ≤ length (items_text later (item (row_data r) ds)) = first_item later (row_data r) ds in
    let h : 20 ≤ length (compact_text (row_data r)) = row_long r in
    let k : 20 * length rs ≤ length rest = rows_long true rs in
    omega arith

-- ---- tables

in_table : (x y z : List ℕ) → length y ≤ length (codes "{\"default\":" ++ (x ++ (codes ",\"rows\":" ++ (y ++ z))))
in_table x y z =
    let a : length (x ++ (codes ",\"rows\":" ++ (y ++ z))) ≡ length x + (8 + length (y ++ z)) = of_three x (codes ",\"rows\":") (y ++ z) in
    let b : length (y ++ z) ≡ length y + length z = length-append y z in
    omega arith

table_long : (t : TableRows) → 20 * length t.rows ≤ length (compact_text (table_data t))
unfolding serde_json_on_literals
table_long t =
    let rows = compact_text (array_data row_data t.rows) in
    let h : length rows ≤ length (compact_text (table_data t)) = in_table (decimal t.otherwise) rows _ in
    let k : 20 * length t.rows ≤ length (items_text false (items_of (map row_data t.rows))) = rows_long false t.rows in
    omega arith

abbrev all_rows : List TableRows → List KeyRow
all_rows ts = flat_map (λ (t : TableRows). t.rows) ts

tables_long : (later : Bool) (ts : List TableRows) → 20 * length (all_rows ts) ≤ length (items_text later (items_of (map table_data ts)))
tables_long later [] = omega arith
tables_long later (t ∷ ts) =
    let ds = items_of (map table_data ts) in
    let rest = items_text true ds in
    let a : length (compact_text (table_data t)) + length rest ≤ length (items_text later (item (table_data t) ds)) = first_item later (table_data t) ds in
    let h : 20 * length t.rows ≤ length (compact_text (table_data t)) = table_long t in
    let k : 20 * length (all_rows ts) ≤ length rest = tables_long true ts in
    let b : length (all_rows (t ∷ ts)) ≡ length t.rows + length (all_rows ts) = length-append t.rows (all_rows ts) in
    omega arith

in_file : (x y z : List ℕ) → length y ≤ length (codes "{\"groups\":" ++ (x ++ (codes ",\"tables\":" ++ (y ++ z))))
in_file x y z =
    let a : length (x ++ (codes ",\"tables\":" ++ (y ++ z))) ≡ length x + (10 + length (y ++ z)) = of_three x (codes ",\"tables\":") (y ++ z) in
    let b : length (y ++ z) ≡ length y + length z = length-append y z in
    omega arith

pub file_long : (r : RowsFile) → 20 * length (all_rows r.tables) ≤ length (rows_text r)
unfolding serde_json_on_literals
file_long r =
    let tables = compact_text (array_data table_data r.tables) in
    let h : length tables ≤ length (rows_text r) = in_file (compact_text (array_data group_data r.groups)) tables _ in
    let k : 20 * length (all_rows r.tables) ≤ length (items_text false (items_of (map table_data r.tables))) = tables_long false r.tables in
    omega arith
