-- The value of a file of rows: that it has no fraction, and that it is shallow; and the pairs of values and masks of a row.
use Rattle.std.proofs.Common.{◌≡◌, ◌≤◌, ℕ, zero, suc, List, [], ◌∷◌, ◌++◌, length, min, drop, Some, false, refl, sym, ap, subst, ◌∙◌, max, arith}
use Rattle.std.proofs.lemmas.List.{append-nil}
use Rattle.serde_json.specs.Data.{Data, depth, items_depth}
use Rattle.serde_json.specs.View.{items_of}
use Rattle.serde_json.specs.Read.{read, max_depth}
use Rattle.serde_json.specs.Written.{has_float, items_have_float}
use Rattle.p4_ir.specs.P4Tree.{KeyRow, TableRows, Group, RowsFile}
use Rattle.json_forms.specs.Values.{number_data, these}
use Rattle.json_forms.proofs.Plain.{no_float, within, number_plain, number_flat}
use Rattle.net_bundle.specs.NetJson.{key_data, row_data, table_data, group_data, rows_data}

-- ---- pairs

abbrev pub pair_data : ℕ → ℕ → Data
pair_data v m = these (number_data v ∷ number_data m ∷ [])

abbrev pub pairs : List ℕ → List ℕ → List Data
pairs [] ms = []
pairs (v ∷ vs) [] = []
pairs (v ∷ vs) (m ∷ ms) = pair_data v m ∷ pairs vs ms

pub key_pairs : (vs ms : List ℕ) → items_of (pairs vs ms) ≡ key_data vs ms
key_pairs [] ms = refl
key_pairs (v ∷ vs) [] = refl
key_pairs (v ∷ vs) (m ∷ ms) = rw (key_pairs vs ms) refl

-- there are no more pairs than values or masks
pub pairs_end : (vs ms : List ℕ) (i : ℕ) → min (length vs) (length ms) ≤ i → pairs (drop i vs) (drop i ms) ≡ []
pairs_end [] ms zero h = refl
pairs_end [] ms (suc i) h = refl
pairs_end (v ∷ vs) [] zero h = refl
pairs_end (v ∷ vs) [] (suc i) h = no_pairs (drop i vs)
  where
    no_pairs : (xs : List ℕ) → pairs xs [] ≡ []
    no_pairs [] = refl
    no_pairs (x ∷ xs) = refl
pairs_end (v ∷ vs) (m ∷ ms) zero h = let no : ⊥ = grind (arith, h) in absurd no
pairs_end (v ∷ vs) (m ∷ ms) (suc i) h = pairs_end vs ms i (grind (arith, h))

-- all pairs, once the rest has none
pub pairs_done : (done : List Data) (vs ms : List ℕ) (i : ℕ) → min (length vs) (length ms) ≤ i → done ++ pairs (drop i vs) (drop i ms) ≡ pairs vs ms
    → items_of done ≡ key_data vs ms
pairs_done done vs ms i h e =
    ap items_of (sym (append-nil done) ∙ ap (λ xs. done ++ xs) (sym (pairs_end vs ms i h)) ∙ e) ∙ key_pairs vs ms

-- ---- no fraction

key_plain : (vs ms : List ℕ) → items_have_float (key_data vs ms) ≡ false
key_plain [] ms = refl
key_plain (v ∷ vs) [] = refl
key_plain (v ∷ vs) (m ∷ ms) = key_plain vs ms

row_plain : (r : KeyRow) → has_float (row_data r) ≡ false
row_plain r = rw (key_plain r.values r.masks) refl

table_plain : (t : TableRows) → has_float (table_data t) ≡ false
table_plain t = rw (no_float row_data row_plain t.rows) refl

group_plain : (g : Group) → has_float (group_data g) ≡ false
group_plain g = rw (no_float number_data number_plain g.members) refl

pub rows_plain : (r : RowsFile) → has_float (rows_data r) ≡ false
rows_plain r = rw (no_float group_data group_plain r.groups, no_float table_data table_plain r.tables) refl

-- ---- depth

key_shallow : (vs ms : List ℕ) → items_depth (key_data vs ms) ≤ 1
key_shallow [] ms = omega arith
key_shallow (v ∷ vs) [] = omega arith
key_shallow (v ∷ vs) (m ∷ ms) = let a = key_shallow vs ms in grind (arith, a)

row_shallow : (r : KeyRow) → depth (row_data r) ≤ 3
row_shallow r = let a = key_shallow r.values r.masks in grind (arith, a)

table_shallow : (t : TableRows) → depth (table_data t) ≤ 5
table_shallow t = let a = within row_data 3 row_shallow t.rows in grind (arith, a)

group_shallow : (g : Group) → depth (group_data g) ≤ 3
group_shallow g = let a = within number_data 1 number_flat g.members in grind (arith, a)

two_deep : (a b : ℕ) → a ≤ 3 → b ≤ 5 → suc (max (suc a) (max (suc b) 0)) ≤ max_depth
two_deep a b h i = grind (arith)

pub rows_shallow : (r : RowsFile) → depth (rows_data r) ≤ max_depth
rows_shallow r = two_deep _ _ (within group_data 3 group_shallow r.groups) (within table_data 5 table_shallow r.tables)

-- what was written of a value is read back as it
pub rows_read : (d : Data) (bytes : List ℕ) (r : RowsFile) → d ≡ rows_data r → (depth d ≤ max_depth → read bytes ≡ Some d) → read bytes ≡ Some (rows_data r)
rows_read d bytes r e h = h (subst (λ (x : Data). depth x ≤ max_depth) (sym e) (rows_shallow r)) ∙ ap Some e
