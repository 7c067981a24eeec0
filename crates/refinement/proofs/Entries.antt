-- The entries of tables: their values and their patterns have numbers that fit.
use Rattle.std.proofs.Common.{◌≡◌, ℕ, ◌+◌, ◌-◌, ◌^◌, ◌<◌, ◌==◌, ◌&&◌, List, [], ◌∷◌, ◌++◌, All, map, Bool, true, false, Option, Some, None, refl, ◌∙◌, arith}
use Rattle.std.specs.List.{AllZip, list_all}
use Rattle.std.proofs.lemmas.Bool.{and_parts, cond_both, lt-ltb}
use Rattle.std.proofs.lemmas.Bool.Decides.{nat_tests}
use Rattle.std.proofs.lemmas.List.Elements.{All-head, All-tail}
use Rattle.std.proofs.lemmas.List.Folds.{list_all-append}
use Rattle.cocoon_num.specs.Tree.{Entry, a_default, a_row, DefsText, FunctionDecl, literal, masked, any, ResultKind, of_width, of_truth}
use Rattle.cocoon_num.specs.Values.{fits_width}
use Rattle.cocoon_num.specs.declared.bits.Bits.{Bits}
use Rattle.cocoon_num.specs.declared.fun_table.FunRow.{FunRow}
use Rattle.cocoon_num.specs.declared.fun_table.FunTable.{FunTable}
use Rattle.runtime_defs.specs.Printable.{all_fit_widths, FitsPlace, FitsRow, result_width}
use Rattle.runtime_defs.specs.EntryPlaces.{all_entries, entries_from, entry_at, entry_size, key_pattern, key_patterns, place_entries, result_value, row_entry}
use Rattle.runtime_defs.proofs.Chosen.{AllOwn, EntriesOwn, EntryOwn, OwnFits}
use Rattle.sound_types.specs.Literals.{EntriesFit, entry_value, value_within}

-- ---- values

abbrev is_within : Entry → Bool
is_within e = value_within (entry_value e)

both_true : (a b : Bool) → a ≡ true → b ≡ true → (a && b) ≡ true
both_true true b h k = k
both_true false b h k = absurd (cc)

result_within : (kind : ResultKind) (b : Bits) → value_within (result_value kind b) ≡ true
result_within (of_width w) b = lt-ltb b.value (2 ^ b.width) b.fits
result_within of_truth b = refl

rows_within : (f : FunctionDecl) (ws : List ℕ) (rows : List FunRow) → list_all is_within (map (row_entry f ws) rows) ≡ true
rows_within f ws [] = refl
rows_within f ws (row ∷ rows) = both_true (is_within (row_entry f ws row)) (list_all is_within (map (row_entry f ws) rows)) (result_within f.result row.result) (rows_within f ws rows)

place_within : (f : FunctionDecl) (p : Option FunTable) → list_all is_within (place_entries f p) ≡ true
place_within f None = refl
place_within f (Some t) = both_true (value_within (result_value f.result t.default)) (list_all is_within (map (row_entry f t.widths) t.rows)) (result_within f.result t.default) (rows_within f t.widths t.rows)

all_within : (fs : List FunctionDecl) (ps : List (Option FunTable)) → list_all is_within (all_entries fs ps) ≡ true
all_within [] ps = refl
all_within (f ∷ fs) [] = refl
all_within (f ∷ fs) (p ∷ ps) =
    list_all-append is_within (place_entries f p) (all_entries fs ps)
    ∙ both_true (list_all is_within (place_entries f p)) (list_all is_within (all_entries fs ps)) (place_within f p) (all_within fs ps)

-- where an entry stands changes nothing
same_within : (i : ℕ) (e : Entry) → is_within (entry_at i e) ≡ is_within e
same_within i (a_default f v) = refl
same_within i (a_row f ps v) = refl

pub from_within : (i : ℕ) (es : List Entry) → list_all is_within es ≡ true → EntriesFit (entries_from i es)
from_within i [] h = refl
from_within i (e ∷ es) h =
    let parts = and_parts (is_within e) (list_all is_within es) h in
    both_true (is_within (entry_at i e)) (list_all is_within (entries_from (i + entry_size e) es)) (same_within i e ∙ parts.0) (from_within (i + entry_size e) es parts.1)

pub entries_within : (fs : List FunctionDecl) (ps : List (Option FunTable)) → EntriesFit (entries_from 0 (all_entries fs ps))
entries_within fs ps = from_within 0 (all_entries fs ps) (all_within fs ps)

-- ---- patterns

within : (w n : ℕ) → fits_width w n ≡ true → n < 2 ^ w
within w n h = grind (arith, nat_tests, h)

pattern_own : (w v m : ℕ) → fits_width w v ≡ true → fits_width w m ≡ true → OwnFits (key_pattern w v m)
pattern_own w v m h k =
    cond_both (m == 2 ^ w - 1) (literal w v) _ OwnFits (λ e. within w v h)
    (λ e. cond_both (m == 0) any (masked w v w m) OwnFits (λ z. tt) (λ z. (within w v h, within w m k)))

patterns_own : (ws vs ms : List ℕ) → all_fit_widths ws vs ≡ true → all_fit_widths ws ms ≡ true → AllOwn (key_patterns ws vs ms)
patterns_own [] vs ms h k = tt
patterns_own (w ∷ ws) [] ms h k = absurd (cc)
patterns_own (w ∷ ws) (v ∷ vs) [] h k = absurd (cc)
patterns_own (w ∷ ws) (v ∷ vs) (m ∷ ms) h k =
    let hs = and_parts (fits_width w v) (all_fit_widths ws vs) h in
    let ks = and_parts (fits_width w m) (all_fit_widths ws ms) k in
    (pattern_own w v m hs.0 ks.0, patterns_own ws vs ms hs.1 ks.1)

own_append : (xs ys : DefsText) → EntriesOwn xs → EntriesOwn ys → EntriesOwn (xs ++ ys)
own_append [] ys h k = k
own_append (x ∷ xs) ys h k = (h.0, own_append xs ys h.1 k)

rows_own : (f : FunctionDecl) (ws : List ℕ) (width : ℕ) (rows : List FunRow) → All (FitsRow ws width) rows → EntriesOwn (map (row_entry f ws) rows)
rows_own f ws width [] h = tt
rows_own f ws width (row ∷ rows) h =
    let one = All-head (FitsRow ws width) row rows h in
    (patterns_own ws row.values row.masks one.values_fit one.masks_fit, rows_own f ws width rows (All-tail (FitsRow ws width) row rows h))

place_own : (f : FunctionDecl) (p : Option FunTable) → FitsPlace f p → EntriesOwn (place_entries f p)
place_own f None h = tt
place_own f (Some t) h = (tt, rows_own f t.widths (result_width f.result) t.rows h.1.rows_fit)

all_own : (fs : List FunctionDecl) (ps : List (Option FunTable)) → AllZip FitsPlace fs ps → EntriesOwn (all_entries fs ps)
all_own [] ps h = tt
all_own (f ∷ fs) [] h = tt
all_own (f ∷ fs) (p ∷ ps) h = own_append (place_entries f p) (all_entries fs ps) (place_own f p h.0) (all_own fs ps h.1)

same_own : (i : ℕ) (e : Entry) → EntryOwn e → EntryOwn (entry_at i e)
same_own i (a_default f v) h = tt
same_own i (a_row f ps v) h = h

from_own : (i : ℕ) (es : List Entry) → EntriesOwn es → EntriesOwn (entries_from i es)
from_own i [] h = tt
from_own i (e ∷ es) h = (same_own i e h.0, from_own (i + entry_size e) es h.1)

pub entries_own : (fs : List FunctionDecl) (ps : List (Option FunTable)) → AllZip FitsPlace fs ps → EntriesOwn (entries_from 0 (all_entries fs ps))
entries_own fs ps h = from_own 0 (all_entries fs ps) (all_own fs ps h)
