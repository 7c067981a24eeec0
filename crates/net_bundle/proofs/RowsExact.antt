-- The form of a file of rows is exact.
use Rattle.std.proofs.Common.{◌≡◌, ℕ, suc, ◌^◌, ◌&&◌, ◌↔◌, Bool, true, false, List, [], ◌∷◌, length, map, Option, Some, None, Result, Ok, Err, if◌then◌else◌, nat_lt, IsTrue, refl, sym, ap, ap₂, subst, ◌∙◌, codes, arith}
use Rattle.std.specs.Prelude.{◌==◌}
use Rattle.std.proofs.lemmas.Bool.{and_from, and_parts, eq-eqb, eqb-true}
use Rattle.serde_json.specs.Data.{Data, array, object, item, no_members, member}
use Rattle.serde_json.specs.View.{items_of}
use Rattle.cocoon_num.specs.Lists.{each}
use Rattle.p4_ir.specs.P4Tree.{KeyRow, TableRows, Group, RowsFile}
use Rattle.p4_ir.specs.Loading.{row_numbers_fit, table_numbers_fit, group_numbers_fit, rows_file_fits}
use Rattle.json_forms.specs.Values.{number_data, array_data, these}
use Rattle.net_bundle.specs.NetJson.{key_data, row_data, table_data, group_data, rows_data}
use Rattle.json_forms.specs.Forms.{number_form, list_form, has_items, item_form, has_keys, member_form, both_of}
use Rattle.net_bundle.specs.RowsForm.{group_form, pair_form, row_keys, row_made, row_form, table_keys, table_made, table_form, rows_keys, rows_members, rows_form}
use Rattle.json_forms.proofs.Exact.{Exact, if_parts, both_parts, number_exact, list_exact, two_items, two_members, three_members, err_ok, ok_same, ok_parts}

abbrev pub small : ℕ → Bool
small n = nat_lt n (2 ^ 64)

numbers_exact : Exact (list_form (number_form (2 ^ 64))) (array_data number_data) (each small)
numbers_exact = list_exact _ _ _ (number_exact (2 ^ 64))

-- ---- groups

abbrev group_made : ℕ → List ℕ → Group
group_made n ms = record { number = n; members = ms }

group_here : (a b : Data) (g : Group) → both_of group_made (number_form (2 ^ 16) a) (list_form (number_form (2 ^ 64)) b) ≡ Some g
    → (these (a ∷ b ∷ []) ≡ group_data g) × (group_numbers_fit g ≡ true)
group_here a b g h =
    let parts = both_parts group_made _ _ g h in
    let number = (number_exact (2 ^ 16)).sound a parts.0 parts.2 in
    let members = numbers_exact.sound b parts.1 parts.3 in (
      ap₂ (λ x y. these (x ∷ y ∷ [])) number.0 members.0 ∙ ap group_data parts.4,
      subst (λ x. group_numbers_fit x ≡ true) parts.4 (and_from _ _ number.1 members.1),
    )

group_sound : (d : Data) (g : Group) → group_form d ≡ Some g → (d ≡ group_data g) × (group_numbers_fit g ≡ true)
group_sound d g h =
    let has = if_parts (has_items 2 d) _ g h in
    let items = two_items d has.0 in
    let inside = subst (λ x. both_of group_made (item_form (number_form (2 ^ 16)) 0 x) (item_form (list_form (number_form (2 ^ 64))) 1 x) ≡ Some g) items.2 has.1 in
    let found = group_here items.0 items.1 g inside in
    (items.2 ∙ found.0, found.1)

group_complete : (g : Group) → group_numbers_fit g ≡ true → group_form (group_data g) ≡ Some g
group_complete g h =
    let parts = and_parts (nat_lt g.number (2 ^ 16)) (each small g.members) h in
    rw ((number_exact (2 ^ 16)).complete g.number parts.0, numbers_exact.complete g.members parts.1) refl

pub group_exact : Exact group_form group_data group_numbers_fit
group_exact = record { sound = group_sound; complete = group_complete }

-- ---- rows

abbrev pair_data : ℕ × ℕ → Data
pair_data p = these (number_data p.0 ∷ number_data p.1 ∷ [])

abbrev pair_fits : ℕ × ℕ → Bool
pair_fits p = small p.0 && small p.1

abbrev pair_made : ℕ → ℕ → ℕ × ℕ
pair_made v m = (v, m)

pair_here : (a b : Data) (p : ℕ × ℕ) → both_of pair_made (number_form (2 ^ 64) a) (number_form (2 ^ 64) b) ≡ Some p
    → (these (a ∷ b ∷ []) ≡ pair_data p) × (pair_fits p ≡ true)
pair_here a b p h =
    let parts = both_parts pair_made _ _ p h in
    let value = (number_exact (2 ^ 64)).sound a parts.0 parts.2 in
    let mask = (number_exact (2 ^ 64)).sound b parts.1 parts.3 in (
      ap₂ (λ x y. these (x ∷ y ∷ [])) value.0 mask.0 ∙ ap pair_data parts.4,
      subst (λ x. pair_fits x ≡ true) parts.4 (and_from _ _ value.1 mask.1),
    )

pair_sound : (d : Data) (p : ℕ × ℕ) → pair_form d ≡ Some p → (d ≡ pair_data p) × (pair_fits p ≡ true)
pair_sound d p h =
    let has = if_parts (has_items 2 d) _ p h in
    let items = two_items d has.0 in
    let inside = subst (λ x. both_of pair_made (item_form (number_form (2 ^ 64)) 0 x) (item_form (number_form (2 ^ 64)) 1 x) ≡ Some p) items.2 has.1 in
    let found = pair_here items.0 items.1 p inside in
    (items.2 ∙ found.0, found.1)

pair_complete : (p : ℕ × ℕ) → pair_fits p ≡ true → pair_form (pair_data p) ≡ Some p
pair_complete p h =
    let parts = and_parts (small p.0) (small p.1) h in
    rw ((number_exact (2 ^ 64)).complete p.0 parts.0, (number_exact (2 ^ 64)).complete p.1 parts.1) refl

pair_exact : Exact pair_form pair_data pair_fits
pair_exact = record { sound = pair_sound; complete = pair_complete }

-- the pairs of a row are its values and masks
key_of_pairs : (ps : List (ℕ × ℕ)) → items_of (map pair_data ps) ≡ key_data (map (λ p. p.0) ps) (map (λ p. p.1) ps)
key_of_pairs [] = refl
key_of_pairs (p ∷ ps) = ap (item (pair_data p)) (key_of_pairs ps)

-- and those fit as the pairs do
row_fits_as : (ps : List (ℕ × ℕ)) → each pair_fits ps ≡ true
    → (length (map (λ p. p.0) ps) ≡ length (map (λ p. p.1) ps)) × (each small (map (λ p. p.0) ps) ≡ true) × (each small (map (λ p. p.1) ps) ≡ true)
row_fits_as [] h = (refl, refl, refl)
row_fits_as (p ∷ ps) h =
    let parts = and_parts (pair_fits p) (each pair_fits ps) h in
    let here = and_parts (small p.0) (small p.1) parts.0 in
    let more = row_fits_as ps parts.1 in
    (ap suc more.0, and_from (small p.0) _ here.0 more.1, and_from (small p.1) _ here.1 more.2)

abbrev zipped : List ℕ → List ℕ → List (ℕ × ℕ)
zipped [] ms = []
zipped (v ∷ vs) [] = []
zipped (v ∷ vs) (m ∷ ms) = (v, m) ∷ zipped vs ms

zipped_values : (vs ms : List ℕ) → length vs ≡ length ms → map (λ p. p.0) (zipped vs ms) ≡ vs
zipped_values [] ms h = refl
zipped_values (v ∷ vs) [] h = absurd (omega (arith, h))
zipped_values (v ∷ vs) (m ∷ ms) h = ap (λ xs. v ∷ xs) (zipped_values vs ms (omega (arith, h)))

zipped_masks : (vs ms : List ℕ) → length vs ≡ length ms → map (λ p. p.1) (zipped vs ms) ≡ ms
zipped_masks [] [] h = refl
zipped_masks [] (m ∷ ms) h = absurd (omega (arith, h))
zipped_masks (v ∷ vs) [] h = absurd (omega (arith, h))
zipped_masks (v ∷ vs) (m ∷ ms) h = ap (λ xs. m ∷ xs) (zipped_masks vs ms (omega (arith, h)))

zipped_key : (vs ms : List ℕ) → items_of (map pair_data (zipped vs ms)) ≡ key_data vs ms
zipped_key [] ms = refl
zipped_key (v ∷ vs) [] = refl
zipped_key (v ∷ vs) (m ∷ ms) = ap (item (pair_data (v, m))) (zipped_key vs ms)

zipped_fits : (vs ms : List ℕ) → each small vs ≡ true → each small ms ≡ true → each pair_fits (zipped vs ms) ≡ true
zipped_fits [] ms h i = refl
zipped_fits (v ∷ vs) [] h i = refl
zipped_fits (v ∷ vs) (m ∷ ms) h i =
    let a = and_parts (small v) (each small vs) h in
    let b = and_parts (small m) (each small ms) i in
    and_from (pair_fits (v, m)) _ (and_from (small v) (small m) a.0 b.0) (zipped_fits vs ms a.1 b.1)

pairs_exact : Exact (list_form pair_form) (array_data pair_data) (each pair_fits)
pairs_exact = list_exact _ _ _ pair_exact

row_fits_all : (r : KeyRow) → length r.values ≡ length r.masks → each small r.values ≡ true → each small r.masks ≡ true → small r.result ≡ true → row_numbers_fit r ≡ true
row_fits_all r h i j k = and_from _ _ (and_from _ _ (and_from _ _ (eq-eqb _ _ h) i) j) k

abbrev row_object : Data → Data → Data
row_object a b = object (member (codes "key") a (member (codes "value") b no_members))

row_here : (a b : Data) (r : KeyRow) → both_of row_made (list_form pair_form a) (number_form (2 ^ 64) b) ≡ Some r → (row_object a b ≡ row_data r) × (row_numbers_fit r ≡ true)
row_here a b r h =
    let parts = both_parts row_made _ _ r h in
    let pairs = pairs_exact.sound a parts.0 parts.2 in
    let result = (number_exact (2 ^ 64)).sound b parts.1 parts.3 in
    let fit = row_fits_as parts.0 pairs.1 in (
      ap₂ row_object (pairs.0 ∙ ap array (key_of_pairs parts.0)) result.0 ∙ ap row_data parts.4,
      subst (λ x. row_numbers_fit x ≡ true) parts.4 (row_fits_all (row_made parts.0 parts.1) fit.0 fit.1 fit.2 result.1),
    )

row_sound : (d : Data) (r : KeyRow) → row_form d ≡ Some r → (d ≡ row_data r) × (row_numbers_fit r ≡ true)
row_sound d r h =
    let has = if_parts (has_keys row_keys d) _ r h in
    let members = two_members (codes "key") (codes "value") d has.0 in
    let inside = subst (λ x. both_of row_made (member_form (list_form pair_form) (codes "key") x) (member_form (number_form (2 ^ 64)) (codes "value") x) ≡ Some r) members.2 has.1 in
    let found = row_here members.0 members.1 r inside in
    (members.2 ∙ found.0, found.1)

row_parts : (r : KeyRow) → row_numbers_fit r ≡ true → (length r.values ≡ length r.masks) × (each small r.values ≡ true) × (each small r.masks ≡ true) × (small r.result ≡ true)
row_parts r h =
    let whole = and_parts _ (small r.result) h in
    let masks = and_parts _ (each small r.masks) whole.0 in
    let values = and_parts (length r.values == length r.masks) (each small r.values) masks.0 in
    (eqb-true _ _ values.0, values.1, masks.1, whole.1)

row_again : (a b : Data) (ps : List (ℕ × ℕ)) (n : ℕ) → list_form pair_form a ≡ Some ps → number_form (2 ^ 64) b ≡ Some n → row_form (row_object a b) ≡ Some (row_made ps n)
row_again a b ps n h i = rw (h, i) refl

row_complete : (r : KeyRow) → row_numbers_fit r ≡ true → row_form (row_data r) ≡ Some r
row_complete r h =
    let parts = row_parts r h in
    let pairs = zipped r.values r.masks in
    let read = pairs_exact.complete pairs (zipped_fits r.values r.masks parts.1 parts.2) in
    let key : list_form pair_form (array (key_data r.values r.masks)) ≡ Some pairs = ap (λ ds. list_form pair_form (array ds)) (sym (zipped_key r.values r.masks)) ∙ read in
    row_again (array (key_data r.values r.masks)) (number_data r.result) pairs r.result key ((number_exact (2 ^ 64)).complete r.result parts.3)
    ∙ ap₂ (λ vs ms. Some (record { values = vs; masks = ms; result = r.result })) (zipped_values r.values r.masks parts.0) (zipped_masks r.values r.masks parts.0)

pub row_exact : Exact row_form row_data row_numbers_fit
row_exact = record { sound = row_sound; complete = row_complete }

-- ---- tables

rows_exact_list : Exact (list_form row_form) (array_data row_data) (each row_numbers_fit)
rows_exact_list = list_exact _ _ _ row_exact

abbrev table_object : Data → Data → Data → Data
table_object a b c = object (member (codes "default") a (member (codes "rows") b (member (codes "table") c no_members)))

abbrev rows_made : List KeyRow → ℕ → List KeyRow × ℕ
rows_made rows number = (rows, number)

three_same : (a b c x y z : Data) → a ≡ x → b ≡ y → c ≡ z → table_object a b c ≡ table_object x y z
three_same a b c x y z h i j = cc

table_here : (a b c : Data) (t : TableRows)
    → both_of table_made (number_form (2 ^ 64) a) (both_of rows_made (list_form row_form b) (number_form (2 ^ 32) c)) ≡ Some t → (table_object a b c ≡ table_data t) × (table_numbers_fit t ≡ true)
table_here a b c t h =
    let parts = both_parts table_made _ _ t h in
    let rest = both_parts rows_made _ _ parts.1 parts.3 in
    let default = (number_exact (2 ^ 64)).sound a parts.0 parts.2 in
    let rows = rows_exact_list.sound b rest.0 rest.2 in
    let number = (number_exact (2 ^ 32)).sound c rest.1 rest.3 in
    let made : table_made parts.0 (rest.0, rest.1) ≡ t = ap (table_made parts.0) rest.4 ∙ parts.4 in (
      three_same _ _ _ _ _ _ default.0 rows.0 number.0 ∙ ap table_data made,
      subst (λ x. table_numbers_fit x ≡ true) made (and_from _ _ (and_from _ _ number.1 default.1) rows.1),
    )

table_sound : (d : Data) (t : TableRows) → table_form d ≡ Some t → (d ≡ table_data t) × (table_numbers_fit t ≡ true)
table_sound d t h =
    let has = if_parts (has_keys table_keys d) _ t h in
    let members = three_members (codes "default") (codes "rows") (codes "table") d has.0 in
    let inside =
    subst (λ x. both_of table_made (member_form (number_form (2 ^ 64)) (codes "default") x) (both_of rows_made (member_form (list_form row_form) (codes "rows") x) (member_form (number_form (2 ^ 32)) (codes "table") x)) ≡ Some t) members.3 has.1 in
    let found = table_here members.0 members.1 members.2 t inside in
    (members.3 ∙ found.0, found.1)

table_again : (a b c : Data) (n : ℕ) (rows : List KeyRow) (m : ℕ) → number_form (2 ^ 64) a ≡ Some n → list_form row_form b ≡ Some rows → number_form (2 ^ 32) c ≡ Some m
    → table_form (table_object a b c) ≡ Some (table_made n (rows, m))
table_again a b c n rows m h i j = rw (h, i, j) refl

table_complete : (t : TableRows) → table_numbers_fit t ≡ true → table_form (table_data t) ≡ Some t
table_complete t h =
    let whole = and_parts _ (each row_numbers_fit t.rows) h in
    let numbers = and_parts (nat_lt t.number (2 ^ 32)) (small t.otherwise) whole.0 in
    table_again (number_data t.otherwise) (array_data row_data t.rows) (number_data t.number) t.otherwise t.rows t.number ((number_exact (2 ^ 64)).complete t.otherwise numbers.1)
    (rows_exact_list.complete t.rows whole.1) ((number_exact (2 ^ 32)).complete t.number numbers.0)

pub table_exact : Exact table_form table_data table_numbers_fit
table_exact = record { sound = table_sound; complete = table_complete }

-- ---- the file

groups_exact : Exact (list_form group_form) (array_data group_data) (each group_numbers_fit)
groups_exact = list_exact _ _ _ group_exact

tables_exact : Exact (list_form table_form) (array_data table_data) (each table_numbers_fit)
tables_exact = list_exact _ _ _ table_exact

members_parts : (groups : Option (List Group)) (tables : Option (List TableRows)) (file : RowsFile) → rows_members groups tables ≡ Ok file
    → (groups ≡ Some file.groups) × (tables ≡ Some file.tables)
members_parts None tables file h = absurd (err_ok _ file h)
members_parts (Some groups) None file h = absurd (err_ok _ file h)
members_parts (Some groups) (Some tables) file h = let same = ok_same _ file h in (ap (λ (x : RowsFile). Some x.groups) same, ap (λ (x : RowsFile). Some x.tables) same)

abbrev rows_object : Data → Data → Data
rows_object a b = object (member (codes "groups") a (member (codes "tables") b no_members))

pub rows_sound : (d : Data) (file : RowsFile) → rows_form d ≡ Ok file → (d ≡ rows_data file) × IsTrue (rows_file_fits file)
rows_sound d file h =
    let has = ok_parts (has_keys rows_keys d) [] _ file h in
    let members = two_members (codes "groups") (codes "tables") d has.0 in
    let inside = subst (λ x. rows_members (member_form (list_form group_form) (codes "groups") x) (member_form (list_form table_form) (codes "tables") x) ≡ Ok file) members.2 has.1 in
    let parts = members_parts (list_form group_form members.0) (list_form table_form members.1) file inside in
    let groups = groups_exact.sound members.0 file.groups parts.0 in
    let tables = tables_exact.sound members.1 file.tables parts.1 in
    (members.2 ∙ ap₂ rows_object groups.0 tables.0, and_from _ _ tables.1 groups.1)

rows_again : (a b : Data) (groups : List Group) (tables : List TableRows) → list_form group_form a ≡ Some groups → list_form table_form b ≡ Some tables
    → rows_form (rows_object a b) ≡ Ok (record { tables = tables; groups = groups })
rows_again a b groups tables h i = rw (h, i) refl

pub rows_complete : (file : RowsFile) → IsTrue (rows_file_fits file) → rows_form (rows_data file) ≡ Ok file
rows_complete file h =
    let parts = and_parts (each table_numbers_fit file.tables) (each group_numbers_fit file.groups) h in
    rows_again (array_data group_data file.groups) (array_data table_data file.tables) file.groups file.tables (groups_exact.complete file.groups parts.1) (tables_exact.complete file.tables parts.0)

pub rows_is_exact : (d : Data) (file : RowsFile) → (rows_form d ≡ Ok file) ↔ ((d ≡ rows_data file) × IsTrue (rows_file_fits file))
rows_is_exact d file = (rows_sound d file, λ h. ap rows_form h.0 ∙ rows_complete file h.1)
