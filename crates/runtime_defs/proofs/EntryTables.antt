-- The entries of tables have these tables.
use Rattle.std.proofs.Common.{◌≡◌, ℕ, ◌+◌, ◌-◌, ◌^◌, ◌<◌, List, [], ◌∷◌, ◌++◌, length, map, All, false, Option, Some, None, refl, ap, ap₂, sym, subst, ◌∙◌, arith, append-nil, append_assoc}
use Rattle.std.specs.Prelude.{◌==◌, bit_and, filter_map, if◌then◌else◌, option_map}
use Rattle.std.specs.Int.Bits.{and_zero_r}
use Rattle.std.specs.List.{AllZip}
use Rattle.std.proofs.lemmas.Bool.{cond-true, cond-false, cond_both, eqb-true}
use Rattle.std.proofs.lemmas.Bool.Decides.{nat_tests}
use Rattle.std.proofs.lemmas.List.Elements.{All-head, All-tail, filter_map-append}
use Rattle.cocoon_num.specs.BitsOf.{value_of}
use Rattle.cocoon_num.specs.Lists.{first_of}
use Rattle.cocoon_num.specs.Names.{same_name}
use Rattle.cocoon_num.specs.Tree.{Entry, a_default, a_row, FunctionDecl, literal, masked, any, ResultKind, of_width, of_truth}
use Rattle.cocoon_num.specs.Values.{Value, number}
use Rattle.cocoon_num.specs.declared.bits.Bits.{Bits}
use Rattle.cocoon_num.specs.declared.fun_table.FunRow.{FunRow}
use Rattle.cocoon_num.specs.declared.fun_table.FunTable.{FunTable}
use Rattle.cocoon_types.specs.DefsRules.{entry_function}
use Rattle.cocoon_types.specs.Tables.{Row, Table, default_of, row_of, runtime_table}
use Rattle.runtime_defs.specs.Printable.{AreMasked, FitsPlace, FitsRow, IsMasked, result_width}
use Rattle.runtime_defs.specs.EntryPlaces.{all_entries, entries_from, entry_at, entry_size, key_pattern, key_patterns, place_entries, result_value, row_entry}
use Rattle.runtime_defs.specs.Tabled.{as_bits, IsPlace, IsRow, pattern_mask, pattern_value}
use Rattle.runtime_defs.proofs.Fits.{widths_counted}
use Rattle.runtime_defs.proofs.OwnNames.{Apart, Distinct, same_self, same_turned}

-- ---- patterns and results

value_back : (w v m : ℕ) → bit_and v m ≡ v → v ≡ pattern_value (key_pattern w v m)
value_back w v m h =
    cond_both (m == 2 ^ w - 1) (literal w v) _ (λ p. v ≡ pattern_value p) (λ e. refl)
    (λ e. cond_both (m == 0) any (masked w v w m) (λ p. v ≡ pattern_value p)
    (λ z. sym h ∙ ap (bit_and v) (eqb-true m 0 z) ∙ and_zero_r v) (λ z. sym h))

mask_back : (w v m : ℕ) → m ≡ pattern_mask (key_pattern w v m)
mask_back w v m =
    cond_both (m == 2 ^ w - 1) (literal w v) _ (λ p. m ≡ pattern_mask p) (λ e. eqb-true m (2 ^ w - 1) e)
    (λ e. cond_both (m == 0) any (masked w v w m) (λ p. m ≡ pattern_mask p) (λ z. eqb-true m 0 z) (λ z. refl))

values_back : (ws vs ms : List ℕ) → length ms ≡ length ws → AreMasked vs ms → vs ≡ map pattern_value (key_patterns ws vs ms)
values_back [] [] [] l h = refl
values_back [] [] (m ∷ ms) l h = absurd h
values_back [] (v ∷ vs) [] l h = absurd h
values_back [] (v ∷ vs) (m ∷ ms) l h = absurd (omega (arith, l))
values_back (w ∷ ws) [] [] l h = refl
values_back (w ∷ ws) [] (m ∷ ms) l h = absurd h
values_back (w ∷ ws) (v ∷ vs) [] l h = absurd h
values_back (w ∷ ws) (v ∷ vs) (m ∷ ms) l h = ap₂ (λ x xs. x ∷ xs) (value_back w v m h.0) (values_back ws vs ms (omega (arith, l)) h.1)

masks_back : (ws vs ms : List ℕ) → length vs ≡ length ws → length ms ≡ length ws → ms ≡ map pattern_mask (key_patterns ws vs ms)
masks_back [] vs [] k l = refl
masks_back [] vs (m ∷ ms) k l = absurd (omega (arith, l))
masks_back (w ∷ ws) [] ms k l = absurd (omega (arith, k))
masks_back (w ∷ ws) (v ∷ vs) [] k l = absurd (omega (arith, l))
masks_back (w ∷ ws) (v ∷ vs) (m ∷ ms) k l = ap₂ (λ x xs. x ∷ xs) (mask_back w v m) (masks_back ws vs ms (omega (arith, k)) (omega (arith, l)))

bit_back : (w n : ℕ) → w ≡ 1 → n < 2 ^ w → number w n ≡ number 1 (if n == 1 then 1 else 0)
bit_back w n e l =
    let small : n < 2 = subst (λ k. n < 2 ^ k) e l in
    ap (λ k. number k n) e ∙ ap (number 1) (cond_both (n == 1) 1 0 (λ k. n ≡ k) (λ t. eqb-true n 1 t) (λ t. grind (arith, nat_tests, t, small)))

result_back : (kind : ResultKind) (b : Bits) → b.width ≡ result_width kind → value_of b ≡ as_bits (result_value kind b)
result_back (of_width w) b h = refl
result_back of_truth b h = bit_back b.width b.value h b.fits

-- ---- rows

abbrev pub tree_row : FunctionDecl → List ℕ → FunRow → Row
tree_row f ws row = record { patterns = key_patterns ws row.values row.masks; value = result_value f.result row.result }

row_back : (f : FunctionDecl) (ws : List ℕ) (row : FunRow) → FitsRow ws (result_width f.result) row → AreMasked row.values row.masks → IsRow (tree_row f ws row) row
row_back f ws row h m =
    let values = widths_counted ws row.values h.values_fit in
    let masks = widths_counted ws row.masks h.masks_fit in
    record { values = values_back ws row.values row.masks masks m; masks = masks_back ws row.values row.masks values masks; result = result_back f.result row.result h.result_is }

abbrev MaskedRow : FunRow → Type 0
MaskedRow row = AreMasked row.values row.masks

rows_back : (f : FunctionDecl) (ws : List ℕ) (rows : List FunRow) → All (FitsRow ws (result_width f.result)) rows → All MaskedRow rows → AllZip IsRow (map (tree_row f ws) rows) rows
rows_back f ws [] h m = tt
rows_back f ws (row ∷ rows) h m =
    let P = FitsRow ws (result_width f.result) in
    (row_back f ws row (All-head P row rows h) (All-head MaskedRow row rows m), rows_back f ws rows (All-tail P row rows h) (All-tail MaskedRow row rows m))

-- ---- which entries are of a function

-- none of the entries is of the function of this name
abbrev pub Without : List ℕ → List Entry → Type 0
Without x [] = Unit {0}
Without x (e ∷ es) = (same_name x (entry_function e).text ≡ false) × Without x es

no_row : (x : List ℕ) (e : Entry) → same_name x (entry_function e).text ≡ false → row_of x e ≡ None
no_row x (a_default f v) h = refl
no_row x (a_row f ps v) h = cond-false (same_name x f.text) _ _ h

no_default : (x : List ℕ) (e : Entry) → same_name x (entry_function e).text ≡ false → default_of x e ≡ None
no_default x (a_default f v) h = cond-false (same_name x f.text) _ _ h
no_default x (a_row f ps v) h = refl

abbrev consed : {X : Type 0} → Option X → List X → List X
consed None xs = xs
consed (Some x) xs = x ∷ xs

next_given : {X Y : Type 0} (h : X → Option Y) (x : X) (xs : List X) (o : Option Y) → h x ≡ o → filter_map h (x ∷ xs) ≡ consed o (filter_map h xs)
next_given h x xs None e = search (e)
next_given h x xs (Some y) e = search (e)

rows_none : (x : List ℕ) (es : List Entry) → Without x es → filter_map (row_of x) es ≡ []
rows_none x [] h = refl
rows_none x (e ∷ es) h = next_given (row_of x) e es None (no_row x e h.0) ∙ rows_none x es h.1

defaults_none : (x : List ℕ) (es : List Entry) → Without x es → filter_map (default_of x) es ≡ []
defaults_none x [] h = refl
defaults_none x (e ∷ es) h = next_given (default_of x) e es None (no_default x e h.0) ∙ defaults_none x es h.1

without_both : (x : List ℕ) (es fs : List Entry) → Without x es → Without x fs → Without x (es ++ fs)
without_both x [] fs h k = k
without_both x (e ∷ es) fs h k = (h.0, without_both x es fs h.1 k)

rows_without : (x : List ℕ) (f : FunctionDecl) (ws : List ℕ) (rows : List FunRow) → same_name x f.name.text ≡ false → Without x (map (row_entry f ws) rows)
rows_without x f ws [] h = tt
rows_without x f ws (row ∷ rows) h = (h, rows_without x f ws rows h)

pub place_without : (x : List ℕ) (f : FunctionDecl) (p : Option FunTable) → same_name x f.name.text ≡ false → Without x (place_entries f p)
place_without x f None h = tt
place_without x f (Some t) h = (h, rows_without x f t.widths t.rows h)

pub all_without : (x : List ℕ) (fs : List FunctionDecl) (ps : List (Option FunTable)) → Apart x fs → Without x (all_entries fs ps)
all_without x [] ps h = tt
all_without x (f ∷ fs) [] h = tt
all_without x (f ∷ fs) (p ∷ ps) h = without_both x (place_entries f p) (all_entries fs ps) (place_without x f p (same_turned x f.name.text ∙ h.0)) (all_without x fs ps h.1)

-- ---- the table of a function

own_rows : (f : FunctionDecl) (ws : List ℕ) (rows : List FunRow) → filter_map (row_of f.name.text) (map (row_entry f ws) rows) ≡ map (tree_row f ws) rows
own_rows f ws [] = refl
own_rows f ws (row ∷ rows) =
    next_given (row_of f.name.text) (row_entry f ws row) (map (row_entry f ws) rows) (Some (tree_row f ws row)) (cond-true (same_name f.name.text f.name.text) _ _ (same_self f.name.text))
    ∙ ap (λ rs. tree_row f ws row ∷ rs) (own_rows f ws rows)

own_defaults : (f : FunctionDecl) (ws : List ℕ) (rows : List FunRow) → filter_map (default_of f.name.text) (map (row_entry f ws) rows) ≡ []
own_defaults f ws [] = refl
own_defaults f ws (row ∷ rows) = own_defaults f ws rows

between : {X : Type 0} (h : Entry → Option X) (before own after : List Entry) (xs : List X) → filter_map h before ≡ [] → filter_map h own ≡ xs → filter_map h after ≡ [] → filter_map h (before ++ (own ++ after)) ≡ xs ++ []
between h before own after xs b o a =
    filter_map-append h before (own ++ after) ∙ ap (λ ys. ys ++ filter_map h (own ++ after)) b ∙ filter_map-append h own after ∙ ap₂ (λ ys zs. ys ++ zs) o a

same_rows : (x : List ℕ) (i : ℕ) (es : List Entry) → filter_map (row_of x) (entries_from i es) ≡ filter_map (row_of x) es
same_rows x i [] = refl
same_rows x i (a_default f v ∷ es) = same_rows x (i + entry_size (a_default f v)) es
same_rows x i (a_row f ps v ∷ es) =
    next_given (row_of x) (entry_at i (a_row f ps v)) (entries_from (i + entry_size (a_row f ps v)) es) (row_of x (a_row f ps v)) refl
    ∙ ap (consed (row_of x (a_row f ps v))) (same_rows x (i + entry_size (a_row f ps v)) es) ∙ sym (next_given (row_of x) (a_row f ps v) es (row_of x (a_row f ps v)) refl)

same_defaults : (x : List ℕ) (i : ℕ) (es : List Entry) → filter_map (default_of x) (entries_from i es) ≡ filter_map (default_of x) es
same_defaults x i [] = refl
same_defaults x i (a_row f ps v ∷ es) = same_defaults x (i + entry_size (a_row f ps v)) es
same_defaults x i (a_default f v ∷ es) =
    next_given (default_of x) (entry_at i (a_default f v)) (entries_from (i + entry_size (a_default f v)) es) (default_of x (a_default f v)) refl
    ∙ ap (consed (default_of x (a_default f v))) (same_defaults x (i + entry_size (a_default f v)) es) ∙ sym (next_given (default_of x) (a_default f v) es (default_of x (a_default f v)) refl)

abbrev found_table : FunctionDecl → List Row → Option Value → Option Table
found_table f rows o = option_map (λ v. record { function = f.name; rows = rows; otherwise = v }) o

table_there : (f : FunctionDecl) (es : List Entry) (rows : List Row) (v : Value) → f.body ≡ None → filter_map (row_of f.name.text) es ≡ rows → filter_map (default_of f.name.text) es ≡ v ∷ []
    → runtime_table es f ≡ Some (record { function = f.name; rows = rows; otherwise = v })
table_there f es rows v b r d =
    ap (λ o. elim o as (λ _. Option Table) [ Some e ↦ None | None ↦ found_table f (filter_map (row_of f.name.text) es) (first_of (filter_map (default_of f.name.text) es)) ]) b
    ∙ ap₂ (λ rs vs. found_table f rs (first_of vs)) r d

place_back : (before after : List Entry) (f : FunctionDecl) (p : Option FunTable) → Without f.name.text before → Without f.name.text after → FitsPlace f p → IsMasked p
    → IsPlace (entries_from 0 (before ++ (place_entries f p ++ after))) f p
place_back before after f None b a h m = h
place_back before after f (Some t) b a h m =
    let x = f.name.text in
    let own = place_entries f (Some t) in
    let es = before ++ (own ++ after) in
    let rows = map (tree_row f t.widths) t.rows in
    let v = result_value f.result t.default in
    let r : filter_map (row_of x) es ≡ rows ++ [] = between (row_of x) before own after rows (rows_none x before b) (own_rows f t.widths t.rows) (rows_none x after a) in
    let own_default : filter_map (default_of x) own ≡ v ∷ [] =
    next_given (default_of x) (a_default f.name v) (map (row_entry f t.widths) t.rows) (Some v) (cond-true (same_name x x) _ _ (same_self x)) ∙ ap (λ vs. v ∷ vs) (own_defaults f t.widths t.rows) in
    let d : filter_map (default_of x) es ≡ v ∷ [] = between (default_of x) before own after (v ∷ []) (defaults_none x before b) own_default (defaults_none x after a) in (
      record { function = f.name; rows = rows; otherwise = v },
      table_there f (entries_from 0 es) rows v h.0 (same_rows x 0 es ∙ r ∙ append-nil rows) (same_defaults x 0 es ∙ d),
      record { widths = h.1.widths_are; rows = rows_back f t.widths t.rows h.1.rows_fit m; default = result_back f.result t.default h.1.default_is },
    )

-- none of the entries is of any of the functions
abbrev pub AllWithout : List FunctionDecl → List Entry → Type 0
AllWithout [] es = Unit {0}
AllWithout (f ∷ fs) es = Without f.name.text es × AllWithout fs es

next_without : (f : FunctionDecl) (p : Option FunTable) (gs : List FunctionDecl) (es : List Entry) → Apart f.name.text gs → AllWithout gs es → AllWithout gs (es ++ place_entries f p)
next_without f p [] es a w = tt
next_without f p (g ∷ gs) es a w = (without_both g.name.text es (place_entries f p) w.0 (place_without g.name.text f p a.0), next_without f p gs es a.1 w.1)

places_back : (before : List Entry) (fs : List FunctionDecl) (ps : List (Option FunTable)) → Distinct fs → AllWithout fs before → AllZip FitsPlace fs ps → All IsMasked ps
    → AllZip (IsPlace (entries_from 0 (before ++ all_entries fs ps))) fs ps
places_back before [] [] d w h m = tt
places_back before [] (p ∷ ps) d w h m = absurd h
places_back before (f ∷ fs) [] d w h m = absurd h
places_back before (f ∷ fs) (p ∷ ps) d w h m = (
  place_back before (all_entries fs ps) f p w.0 (all_without f.name.text fs ps d.0) h.0 (All-head IsMasked p ps m),
  subst (λ es. AllZip (IsPlace (entries_from 0 es)) fs ps) (append_assoc before (place_entries f p) (all_entries fs ps))
      (places_back (before ++ place_entries f p) fs ps d.1 (next_without f p fs before d.0 w.1) h.1 (All-tail IsMasked p ps m)),
)

all_none : (fs : List FunctionDecl) → AllWithout fs []
all_none [] = tt
all_none (f ∷ fs) = (tt, all_none fs)

pub tables_back : (fs : List FunctionDecl) (ps : List (Option FunTable)) → Distinct fs → AllZip FitsPlace fs ps → All IsMasked ps → AllZip (IsPlace (entries_from 0 (all_entries fs ps))) fs ps
tables_back fs ps d h m = places_back [] fs ps d (all_none fs) h m
