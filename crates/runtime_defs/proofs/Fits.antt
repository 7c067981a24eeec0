-- The entries of tables that fit are spelled, and their rows have a value and a mask for each width.
use Rattle.std.proofs.Common.{◌≡◌, ℕ, ◌-◌, ◌^◌, ◌<◌, ◌≤◌, List, [], ◌∷◌, ◌++◌, length, map, get_or, All, true, Option, Some, None, refl, sym, subst, arith}
use Rattle.std.specs.Prelude.{◌==◌}
use Rattle.std.specs.List.{AllZip}
use Rattle.std.proofs.lemmas.Bool.{and_parts, cond_both}
use Rattle.std.proofs.lemmas.Bool.Decides.{nat_tests}
use Rattle.std.proofs.lemmas.List.Elements.{All-cons, All-head, All-tail}
use Rattle.cocoon_num.specs.Lists.{each}
use Rattle.cocoon_num.specs.Sorts.{is_declared_width}
use Rattle.cocoon_num.specs.Tree.{Entry, FunctionDecl, literal, masked, any, ResultKind, of_width, of_truth}
use Rattle.cocoon_num.specs.Values.{fits_width}
use Rattle.cocoon_num.specs.declared.bits.Bits.{Bits}
use Rattle.cocoon_num.specs.declared.fun_table.FunRow.{FunRow}
use Rattle.cocoon_num.specs.declared.fun_table.FunTable.{FunTable}
use Rattle.runtime_defs.specs.Printable.{all_fit_widths, FitsFunction, FitsPlace, FitsRow, result_width}
use Rattle.runtime_defs.specs.Keys.{HasAllKeys, HasPlaceKeys}
use Rattle.runtime_defs.specs.EntryPlaces.{all_entries, key_pattern, key_patterns, place_entries, result_value, row_entry}
use Rattle.runtime_defs.proofs.DeclaredWidths.{AreWidths, IsDeclared, IsResult}
use Rattle.runtime_defs.proofs.Spelled.{ConstFits, EntriesFit, EntryFits, LiteralFits, PatternFits, PatternsFit, SomeFit}

-- ---- keys

pub widths_counted : (ws ns : List ℕ) → all_fit_widths ws ns ≡ true → length ns ≡ length ws
widths_counted [] [] h = refl
widths_counted [] (n ∷ ns) h = absurd cc
widths_counted (w ∷ ws) [] h = absurd cc
widths_counted (w ∷ ws) (n ∷ ns) h = let ih = widths_counted ws ns (and_parts (fits_width w n) (all_fit_widths ws ns) h).1 in omega (arith, ih)

table_keys : (f : FunctionDecl) (t : FunTable) → FitsFunction f t → HasAllKeys t
table_keys f t h = λ k d l.
    let row = get_or t.rows k d in
    let fits = h.rows_fit k d l in
    (widths_counted t.widths row.values fits.values_fit, widths_counted t.widths row.masks fits.masks_fit)

place_keys : (f : FunctionDecl) (p : Option FunTable) → FitsPlace f p → HasPlaceKeys p
place_keys f None h = tt
place_keys f (Some t) h = table_keys f t h.1

pub all_keys : (fs : List FunctionDecl) (ps : List (Option FunTable)) → AllZip FitsPlace fs ps → All HasPlaceKeys ps
all_keys [] [] h = λ k d l. absurd (omega (arith, l))
all_keys [] (p ∷ ps) h = absurd h
all_keys (f ∷ fs) [] h = absurd h
all_keys (f ∷ fs) (p ∷ ps) h = All-cons HasPlaceKeys p ps (place_keys f p h.0) (all_keys fs ps h.1)

-- ---- entries

width_bounds : (w : ℕ) → is_declared_width w ≡ true → (1 ≤ w) × (w ≤ 64)
width_bounds w h = (grind (arith, nat_tests, h), grind (arith, nat_tests, h))

literal_fits : (w n : ℕ) → is_declared_width w ≡ true → n < 2 ^ w → LiteralFits w n
literal_fits w n h l = let b = width_bounds w h in (b.0, b.1, l)

within : (w n : ℕ) → fits_width w n ≡ true → n < 2 ^ w
within w n h = grind (arith, nat_tests, h)

result_fits : (kind : ResultKind) (b : Bits) → IsResult kind → b.width ≡ result_width kind → ConstFits (result_value kind b)
result_fits (of_width w) b d h = literal_fits b.width b.value (subst (λ v. is_declared_width v ≡ true) (sym h) d) b.fits
result_fits of_truth b d h = tt

pattern_fits : (w v m : ℕ) → is_declared_width w ≡ true → fits_width w v ≡ true → fits_width w m ≡ true → PatternFits (key_pattern w v m)
pattern_fits w v m d h k =
    cond_both (m == 2 ^ w - 1) (literal w v) _ PatternFits (λ e. literal_fits w v d (within w v h))
    (λ e. cond_both (m == 0) any (masked w v w m) PatternFits (λ z. tt) (λ z. (literal_fits w v d (within w v h), literal_fits w m d (within w m k))))

patterns_fit : (ws vs ms : List ℕ) → each is_declared_width ws ≡ true → all_fit_widths ws vs ≡ true → all_fit_widths ws ms ≡ true → PatternsFit (key_patterns ws vs ms)
patterns_fit [] vs ms d h k = tt
patterns_fit (w ∷ ws) [] ms d h k = absurd cc
patterns_fit (w ∷ ws) (v ∷ vs) [] d h k = absurd cc
patterns_fit (w ∷ ws) (v ∷ vs) (m ∷ ms) d h k =
    let ds = and_parts (is_declared_width w) (each is_declared_width ws) d in
    let hs = and_parts (fits_width w v) (all_fit_widths ws vs) h in
    let ks = and_parts (fits_width w m) (all_fit_widths ws ms) k in
    (pattern_fits w v m ds.0 hs.0 ks.0, patterns_fit ws vs ms ds.1 hs.1 ks.1)

some_fit : (ws vs ms : List ℕ) → AreWidths ws → all_fit_widths ws vs ≡ true → all_fit_widths ws ms ≡ true → SomeFit (key_patterns ws vs ms)
some_fit [] vs ms d h k = absurd d
some_fit (w ∷ ws) [] ms d h k = absurd cc
some_fit (w ∷ ws) (v ∷ vs) [] d h k = absurd cc
some_fit (w ∷ ws) (v ∷ vs) (m ∷ ms) d h k = patterns_fit (w ∷ ws) (v ∷ vs) (m ∷ ms) d h k

row_fits : (f : FunctionDecl) (ws : List ℕ) (row : FunRow) → IsDeclared f → AreWidths ws → FitsRow ws (result_width f.result) row → EntryFits (row_entry f ws row)
row_fits f ws row d w h = (d.name, some_fit ws row.values row.masks w h.values_fit h.masks_fit, result_fits f.result row.result d.result h.result_is)

rows_fit : (f : FunctionDecl) (ws : List ℕ) (rows : List FunRow) → IsDeclared f → AreWidths ws → All (FitsRow ws (result_width f.result)) rows → EntriesFit (map (row_entry f ws) rows)
rows_fit f ws [] d w h = tt
rows_fit f ws (row ∷ rows) d w h =
    let P = FitsRow ws (result_width f.result) in
    (row_fits f ws row d w (All-head P row rows h), rows_fit f ws rows d w (All-tail P row rows h))

place_fits : (f : FunctionDecl) (p : Option FunTable) → IsDeclared f → FitsPlace f p → EntriesFit (place_entries f p)
place_fits f None d h = tt
place_fits f (Some t) d h = (
  (d.name, result_fits f.result t.default d.result h.1.default_is),
  rows_fit f t.widths t.rows d (subst AreWidths (sym h.1.widths_are) d.params) h.1.rows_fit,
)

both_fit : (xs ys : List Entry) → EntriesFit xs → EntriesFit ys → EntriesFit (xs ++ ys)
both_fit [] ys h k = k
both_fit (x ∷ xs) ys h k = (h.0, both_fit xs ys h.1 k)

pub entries_fit : (fs : List FunctionDecl) (ps : List (Option FunTable)) → All IsDeclared fs → AllZip FitsPlace fs ps → EntriesFit (all_entries fs ps)
entries_fit [] ps d h = tt
entries_fit (f ∷ fs) [] d h = absurd h
entries_fit (f ∷ fs) (p ∷ ps) d h =
    both_fit (place_entries f p) (all_entries fs ps) (place_fits f p (All-head IsDeclared f fs d) h.0) (entries_fit fs ps (All-tail IsDeclared f fs d) h.1)
