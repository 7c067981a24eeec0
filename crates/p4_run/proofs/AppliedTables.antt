-- The tables of rows, one after another.
use Rattle.std.proofs.Common.{All, ◌≡◌, ℕ, zero, suc, ◌+◌, ◌<◌, ◌^◌, ◌==◌, nat_lt, Bool, true, List, [], ◌∷◌, ◌++◌, length, length-append, map, take, get_or, slice_get, slice_set, Option, Some, None, refl, sym, ◌∙◌, ap, subst, arith}
use Rattle.std.proofs.lemmas.Bool.{and_from, and_parts, eqb-true}
use Rattle.std.proofs.lemmas.List.{length-map, map-append, take_more}
use Rattle.cocoon_num.specs.Lists.{each, has_number}
use Rattle.row_search.specs.Keyed.{HasKeys, keyed}
use Rattle.numbering.specs.NumberPlaces.{place_of}
use Rattle.p4_ir.specs.Loading.{all_tables, row_fits, rows_load, table_numbers, table_rows_fit}
use Rattle.p4_ir.specs.NetOf.{key_row_of, table_rows_of}
use Rattle.p4_ir.specs.P4Kinds.{kinds_fit, table_fits}
use Rattle.p4_ir.specs.P4Tree.{meta_width, P4Table, Program, RowsFile, TableRows}
use Rattle.p4_ir.specs.Switch.{rows_numbered, table_numbered, table_result}
use Rattle.p4_ir.specs.Program.{field_of, table_of}
use Rattle.p4_ir.specs.declared.program.P4Field.{P4Field as CodeField}
use Rattle.p4_ir.specs.declared.program.Table.{Table as CodeTable}
use Rattle.p4_ir.specs.declared.rows.TableRows.{TableRows as CodeRows}
use Rattle.p4_run.specs.Controls.{control_in}
use Rattle.p4_run.specs.Doing.{AreTables}
use Rattle.p4_run.specs.Effects.{applied_to}
use Rattle.p4_run.specs.declared.stmt_codes.Application.{Application}
use Rattle.p4_run.specs.Runs.{AreApplied, IsApplied}
use Rattle.p4_run.proofs.TableFacts.{all_below, counted, each_found, found_at, found_passes, in_both, keys_parts, kinds_of, loads_of, result_fits, rows_counted, rows_found, table_at, table_found, TableFits}

some_rows : (x y : TableRows) → ◌≡◌ {A = Option TableRows} (Some x) (Some y) → x ≡ y
some_rows x y h = cc

some_table : (x y : Application) → ◌≡◌ {A = Option Application} (Some x) (Some y) → x ≡ y
some_table x y h = cc

hold_more : (p : Program) (ts : List TableRows) (fs : List Application) (r : TableRows) (f : Application) → length fs ≡ length ts
    → ((i : ℕ) (u : TableRows) (g : Application) → slice_get ts i ≡ Some u → slice_get fs i ≡ Some g → IsApplied p u g) → IsApplied p r f
    → (i : ℕ) (u : TableRows) (g : Application) → slice_get (ts ++ r ∷ []) i ≡ Some u → slice_get (fs ++ f ∷ []) i ≡ Some g → IsApplied p u g
hold_more p [] [] r f m a h zero u g e d = subst (λ x. IsApplied p u x) (some_table f g d) (subst (λ x. IsApplied p x f) (some_rows r u e) h)
hold_more p [] [] r f m a h (suc i) u g e d = absurd (cc)
hold_more p [] (x ∷ fs) r f m a h i u g e d = absurd (let bad : suc (length fs) ≡ 0 = m in omega arith)
hold_more p (y ∷ ts) [] r f m a h i u g e d = absurd (let bad : 0 ≡ suc (length ts) = m in omega arith)
hold_more p (y ∷ ts) (x ∷ fs) r f m a h zero u g e d = a 0 u g e d
hold_more p (y ∷ ts) (x ∷ fs) r f m a h (suc i) u g e d = hold_more p ts fs r f (cc) (λ j v w b k. a (suc j) v w b k) h i u g e d

one_longer : {A B : Type 0} (fs : List A) (ts : List B) (f : A) (t : B) → length fs ≡ length ts → length (fs ++ f ∷ []) ≡ length (ts ++ t ∷ [])
one_longer fs ts f t e = length-append fs (f ∷ []) ∙ ap (λ n. n + 1) e ∙ sym (length-append ts (t ∷ []))

-- the rows of one table more
pub applied_more : (p : Program) (tables : List CodeRows) (n : ℕ) (x : CodeRows) (olds news : List Application) (f : Application) → n < length tables → x ≡ get_or tables n x
    → news ≡ olds ++ f ∷ [] → AreApplied p (map table_rows_of (take n tables)) olds → IsApplied p (table_rows_of x) f → AreApplied p (map table_rows_of (take (n + 1) tables)) news
applied_more p tables n x olds news f l e pushed a h =
    let taken : take (n + 1) tables ≡ take n tables ++ x ∷ [] = take_more tables n x l ∙ ap (λ y. take n tables ++ y ∷ []) (sym e) in
    let rows : map table_rows_of (take (n + 1) tables) ≡ map table_rows_of (take n tables) ++ table_rows_of x ∷ [] = ap (map table_rows_of) taken ∙ map-append table_rows_of (take n tables) (x ∷ []) in
    let ts = map table_rows_of (take n tables) in
    subst (λ fs. AreApplied p (map table_rows_of (take (n + 1) tables)) fs) (sym pushed)
    (subst (λ us. AreApplied p us (olds ++ f ∷ [])) (sym rows) (record {
      many = one_longer olds ts f (table_rows_of x) a.many;
      each_is = hold_more p ts olds (table_rows_of x) f a.many a.each_is h;
    }))

-- ---- the tables of a control

there : {A : Type 0} (o : Option A) → (o ≡ None → ⊥) → (x : A) × (o ≡ Some x)
there None f = absurd (f refl)
there (Some x) f = (x, refl)

at_same : (rows : List TableRows) (tables : List Application) (i : ℕ) (r : TableRows) → length tables ≡ length rows → slice_get rows i ≡ Some r → (a : Application) × (slice_get tables i ≡ Some a)
at_same [] tables i r m e = absurd (cc)
at_same (x ∷ rows) [] i r m e = absurd (let bad : 0 ≡ suc (length rows) = m in omega arith)
at_same (x ∷ rows) (a ∷ tables) zero r m e = (a, refl)
at_same (x ∷ rows) (a ∷ tables) (suc i) r m e = at_same rows tables i r (cc) e

pub are_tables : (p : Program) (rows : RowsFile) (b : Bool) (tables : List Application) → kinds_fit p ≡ true → rows_load p rows ≡ true → AreApplied p rows.tables tables
    → AreTables p rows.tables b tables
are_tables p rows b tables k l a n h =
    let t = there (table_numbered (control_in p b).tables n) (table_found (control_in p b).tables n h) in
    let in_all : table_numbered (all_tables p) n ≡ Some t.0 = in_both p b n t.0 (kinds_of p k) t.1 in
    let number : t.0.number ≡ n = eqb-true t.0.number n (found_passes (λ (u : P4Table). u.number == n) (control_in p b).tables t.0 t.1) in
    let given : has_number t.0.number (table_numbers rows.tables) ≡ true =
    each_found (λ (u : P4Table). has_number u.number (table_numbers rows.tables)) (λ (u : P4Table). u.number == n) (all_tables p) t.0 (loads_of p rows l).given in_all in
    let r = there (rows_numbered rows.tables n) (rows_found rows.tables n (subst (λ m. has_number m (table_numbers rows.tables) ≡ true) number given)) in
    let fits : TableFits p t.0 r.0 = table_at p rows b n t.0 r.0 k l t.1 r.1 in
    let place = place_of (table_numbers rows.tables) n in
    let here : slice_get rows.tables place ≡ Some r.0 = sym (found_at (λ (u : TableRows). u.number) rows.tables n) ∙ r.1 in
    let own = at_same rows.tables tables place r.0 a.many here in
    let r_number : r.0.number ≡ n = eqb-true r.0.number n (found_passes (λ (u : TableRows). u.number == n) rows.tables r.0 r.1) in
    let own_table : table_numbered (all_tables p) r.0.number ≡ Some t.0 = ap (table_numbered (all_tables p)) r_number ∙ in_all in (
      t.0,
      r.0,
      record {
        table = t.1;
        rows_are = r.1;
        keys = all_below (length p.meta) t.0.keys fits.keys;
        small = λ xs. result_fits p t.0 r.0.rows r.0.otherwise xs fits.rows fits.otherwise;
        applies = λ meta m.
            ap (λ (o : Option Application). elim o [ None ↦ meta | Some x ↦ applied_to x meta ]) own.1
            ∙ a.each_is place r.0 own.0 here own.1 t.0 own_table meta m;
      },
    )

-- ---- one table, as the code finds it

some_table_is : (x y : P4Table) → ◌≡◌ {A = Option P4Table} (Some x) (Some y) → x ≡ y
some_table_is x y h = cc

pub rows_within : (p : Program) (o : Option P4Table) (t : CodeTable) (r : CodeRows) → Some (table_of t) ≡ o → table_rows_fit p o (table_rows_of r) ≡ true → All (HasKeys (length t.keys)) r.rows
rows_within p o t r e f =
    rows_counted p (table_of t) r.rows (and_parts (each (row_fits p (table_of t)) (map key_row_of r.rows)) (nat_lt r.default (2 ^ meta_width p t.result)) (subst (λ x. table_rows_fit p x (table_rows_of r) ≡ true) (sym e) f)).0

each_both : {A : Type 0} (test : A → Bool) (xs ys : List A) → each test xs ≡ true → each test ys ≡ true → each test (xs ++ ys) ≡ true
each_both test [] ys h k = k
each_both test (x ∷ xs) ys h k =
    let both = and_parts (test x) (each test xs) h in
    and_from (test x) (each test (xs ++ ys)) both.0 (each_both test xs ys both.1 k)

own_fits : (p : Program) (n : ℕ) (t : CodeTable) → kinds_fit p ≡ true → Some (table_of t) ≡ table_numbered (all_tables p) n → table_fits p (table_of t) ≡ true
own_fits p n t k e =
    let kinds = kinds_of p k in
    each_found (table_fits p) (λ (u : P4Table). u.number == n) (all_tables p) (table_of t) (each_both (table_fits p) p.ingress.tables p.egress.tables kinds.ingress_tables kinds.egress_tables) (sym e)

pub keys_some : (p : Program) (n : ℕ) (t : CodeTable) → kinds_fit p ≡ true → Some (table_of t) ≡ table_numbered (all_tables p) n → 0 < length t.keys
keys_some p n t k e = counted (length t.keys) (keys_parts p (table_of t) (own_fits p n t k e)).0

pub keys_within : (p : Program) (n : ℕ) (t : CodeTable) (fields : List CodeField) → kinds_fit p ≡ true → Some (table_of t) ≡ table_numbered (all_tables p) n → map field_of fields ≡ p.meta
    → All (λ i. i < length fields) t.keys
keys_within p n t fields k e m =
    let many : length p.meta ≡ length fields = ap length (sym m) ∙ length-map fields field_of in
    subst (λ c. All (λ i. i < c) t.keys) many (all_below (length p.meta) t.keys (keys_parts p (table_of t) (own_fits p n t k e)).1)

pub applied_one : (p : Program) (r : CodeRows) (a : Application) (t : CodeTable) (fields : List CodeField) → map field_of fields ≡ p.meta
    → Some (table_of t) ≡ table_numbered (all_tables p) r.number
    → ((meta : List ℕ) → length meta ≡ length fields
    → applied_to a meta ≡ slice_set meta t.result (table_result (map key_row_of r.rows) r.default (keyed meta t.keys)))
    → IsApplied p (table_rows_of r) a
applied_one p r a t fields m e h u g =
    let is : table_of t ≡ u = some_table_is (table_of t) u (e ∙ g) in
    subst (λ x. (meta : List ℕ) → length meta ≡ length p.meta → applied_to a meta ≡ slice_set meta x.result (table_result (map key_row_of r.rows) r.default (keyed meta x.keys))) is
    (λ meta l. h meta (l ∙ ap length (sym m) ∙ length-map fields field_of))
