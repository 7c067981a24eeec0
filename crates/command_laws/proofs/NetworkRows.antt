-- The value of a file of rows gives back the rows, where each row has as many masks as values.
use Rattle.std.specs.Prelude.{◌≡◌, ℕ, ◌^◌, ◌==◌, ◌&&◌, Bool, true, nat_lt, List, [], ◌∷◌, map, length, refl}
use Rattle.std.proofs.Common.{◌∙◌, ap, ap₂, arith}
use Rattle.std.proofs.lemmas.Bool.{and_parts, eqb-true}
use Rattle.serde_json.specs.Data.{Data}
use Rattle.serde_json.specs.View.{items_of}
use Rattle.cocoon_num.specs.Lists.{each}
use Rattle.p4_ir.specs.P4Tree.{KeyRow, TableRows, Group, RowsFile}
use Rattle.json_forms.specs.Values.{number_data, array_data}
use Rattle.net_bundle.specs.NetJson.{key_data, row_data, table_data, group_data, rows_data}
use Rattle.p4_ir.specs.Loading.{row_numbers_fit, table_numbers_fit, group_numbers_fit, rows_file_fits}
use Rattle.command_laws.proofs.NetworkFile.{number_same, object_same, member_same, array_same, numbers_same}

-- lists whose things pass a test, where things that do are the same by their values
fit_list_same : {A : Type 0} (f : A → Data) (fits : A → Bool) → ((x y : A) → fits x ≡ true → fits y ≡ true → f x ≡ f y → x ≡ y)
    → (xs ys : List A) → each fits xs ≡ true → each fits ys ≡ true → items_of (map f xs) ≡ items_of (map f ys) → xs ≡ ys
fit_list_same f fits one [] [] a b e = refl
fit_list_same f fits one [] (y ∷ ys) a b e = absurd cc
fit_list_same f fits one (x ∷ xs) [] a b e = absurd cc
fit_list_same f fits one (x ∷ xs) (y ∷ ys) a b e =
    let x_fits = and_parts (fits x) (each fits xs) a in
    let y_fits = and_parts (fits y) (each fits ys) b in
    let h : f x ≡ f y = cc in
    let t : items_of (map f xs) ≡ items_of (map f ys) = cc in
    ap₂ (λ c d. c ∷ d) (one x y x_fits.0 y_fits.0 h) (fit_list_same f fits one xs ys x_fits.1 y_fits.1 t)

fit_array_same : {A : Type 0} (f : A → Data) (fits : A → Bool) → ((x y : A) → fits x ≡ true → fits y ≡ true → f x ≡ f y → x ≡ y)
    → (xs ys : List A) → each fits xs ≡ true → each fits ys ≡ true → array_data f xs ≡ array_data f ys → xs ≡ ys
fit_array_same f fits one xs ys a b e =
    let h : items_of (map f xs) ≡ items_of (map f ys) = cc in
    fit_list_same f fits one xs ys a b h

-- ---- rows

key_same : (vs ms ws ns : List ℕ) → length vs ≡ length ms → length ws ≡ length ns → key_data vs ms ≡ key_data ws ns → (vs ≡ ws) × (ms ≡ ns)
key_same [] [] [] [] a b e = (refl, refl)
key_same [] (m ∷ ms) ws ns a b e = absurd (omega arith)
key_same (v ∷ vs) [] ws ns a b e = absurd (omega arith)
key_same vs ms [] (n ∷ ns) a b e = absurd (omega arith)
key_same vs ms (w ∷ ws) [] a b e = absurd (omega arith)
key_same [] [] (w ∷ ws) (n ∷ ns) a b e = absurd cc
key_same (v ∷ vs) (m ∷ ms) [] [] a b e = absurd cc
key_same (v ∷ vs) (m ∷ ms) (w ∷ ws) (n ∷ ns) a b e =
    let v_same : v ≡ w = cc in
    let m_same : m ≡ n = cc in
    let rest : key_data vs ms ≡ key_data ws ns = cc in
    let t = key_same vs ms ws ns (omega arith) (omega arith) rest in
    (ap₂ (λ x y. x ∷ y) v_same t.0, ap₂ (λ x y. x ∷ y) m_same t.1)

abbrev row_with : List ℕ → List ℕ → ℕ → KeyRow
row_with values masks result = record { values = values; masks = masks; result = result }

as_long : (r : KeyRow) → row_numbers_fit r ≡ true → length r.values ≡ length r.masks
as_long r h =
    let small = λ (n : ℕ). nat_lt n (2 ^ 64) in
    let a = and_parts ((length r.values == length r.masks) && each small r.values && each small r.masks) (small r.result) h in
    let b = and_parts ((length r.values == length r.masks) && each small r.values) (each small r.masks) a.0 in
    let c = and_parts (length r.values == length r.masks) (each small r.values) b.0 in
    eqb-true (length r.values) (length r.masks) c.0

row_same : (r s : KeyRow) → row_numbers_fit r ≡ true → row_numbers_fit s ≡ true → row_data r ≡ row_data s → r ≡ s
row_same r s a b e =
    let key = member_same _ _ _ _ _ _ (object_same _ _ e) in
    let result = member_same _ _ _ _ _ _ key.1 in
    let keys : key_data r.values r.masks ≡ key_data s.values s.masks = let h = key.0 in cc in
    let k = key_same r.values r.masks s.values s.masks (as_long r a) (as_long s b) keys in
    ap₂ (λ x y. row_with x y r.result) k.0 k.1 ∙ ap (row_with s.values s.masks) (number_same r.result s.result result.0)

-- ---- tables and groups

abbrev table_with : ℕ → ℕ → List KeyRow → TableRows
table_with number otherwise rows = record { number = number; otherwise = otherwise; rows = rows }

rows_of_fit : (t : TableRows) → table_numbers_fit t ≡ true → each row_numbers_fit t.rows ≡ true
rows_of_fit t h = (and_parts (nat_lt t.number (2 ^ 32) && nat_lt t.otherwise (2 ^ 64)) (each row_numbers_fit t.rows) h).1

table_same : (t u : TableRows) → table_numbers_fit t ≡ true → table_numbers_fit u ≡ true → table_data t ≡ table_data u → t ≡ u
table_same t u a b e =
    let otherwise = member_same _ _ _ _ _ _ (object_same _ _ e) in
    let rows = member_same _ _ _ _ _ _ otherwise.1 in
    let number = member_same _ _ _ _ _ _ rows.1 in
    ap₂ (λ x y. table_with x y t.rows) (number_same t.number u.number number.0) (number_same t.otherwise u.otherwise otherwise.0)
    ∙ ap (table_with u.number u.otherwise) (fit_array_same row_data row_numbers_fit row_same t.rows u.rows (rows_of_fit t a) (rows_of_fit u b) rows.0)

abbrev group_with : ℕ → List ℕ → Group
group_with number members = record { number = number; members = members }

group_same : (g h : Group) → group_data g ≡ group_data h → g ≡ h
group_same g h e =
    let number : g.number ≡ h.number = cc in
    let members : array_data number_data g.members ≡ array_data number_data h.members = cc in
    ap₂ group_with number (numbers_same g.members h.members members)

-- ---- the file

abbrev rows_with : List TableRows → List Group → RowsFile
rows_with tables groups = record { tables = tables; groups = groups }

pub rows_same : (r s : RowsFile) → rows_file_fits r ≡ true → rows_file_fits s ≡ true → rows_data r ≡ rows_data s → r ≡ s
rows_same r s a b e =
    let groups = member_same _ _ _ _ _ _ (object_same _ _ e) in
    let tables = member_same _ _ _ _ _ _ groups.1 in
    let x_fits = and_parts (each table_numbers_fit r.tables) (each group_numbers_fit r.groups) a in
    let y_fits = and_parts (each table_numbers_fit s.tables) (each group_numbers_fit s.groups) b in
    ap₂ rows_with (fit_array_same table_data table_numbers_fit table_same r.tables s.tables x_fits.0 y_fits.0 tables.0)
    (array_same group_data group_same r.groups s.groups groups.0)
