-- The entries of tables have no fault.
use Rattle.std.proofs.Common.{◌≡◌, ℕ, suc, ◌+◌, ◌-◌, ◌^◌, List, [], ◌∷◌, ◌++◌, length, map, All, Bool, true, false, not, ◌&&◌, ◌||◌, if◌then◌else◌, Option, Some, None, is_some, refl, ap, ap₂, sym, subst, ◌∙◌, arith}
use Rattle.std.specs.Prelude.{◌==◌, flat_map, option_and_then, slice_get}
use Rattle.std.specs.List.{AllZip, list_all}
use Rattle.std.proofs.lemmas.Bool.{cond-true, cond-false, cond_both, eq-eqb}
use Rattle.std.proofs.lemmas.List.Elements.{All-head, All-tail}
use Rattle.std.proofs.lemmas.List.Folds.{list_any-append}
use Rattle.cocoon_num.specs.Lists.{is_one_of}
use Rattle.cocoon_num.specs.Names.{named, same_name}
use Rattle.cocoon_num.specs.Tree.{Entry, a_default, a_row, Expr, FunctionDecl, literal, masked, any, ResultKind, of_width, of_truth, Design}
use Rattle.cocoon_num.specs.declared.bits.Bits.{Bits}
use Rattle.cocoon_num.specs.declared.fun_table.FunRow.{FunRow}
use Rattle.cocoon_num.specs.declared.fun_table.FunTable.{FunTable}
use Rattle.cocoon_types.specs.Design.{functions, widths_of}
use Rattle.cocoon_types.specs.DefsRules.{default_faults, defaulted, DefsFault, DefsFit, entries_faults, entry_faults, entry_fits, entry_function, fork_calls, fork_rows, guard_calls, guard_rows, is_false, is_literal, is_literal_entry, missing_defaults, no_default, other_entries, pattern_fits, patterns_fit, row_faults, runtime_named, two_defaults, unknown_function, value_fits}
use Rattle.runtime_defs.specs.Printable.{all_ones, FitsDesign, FitsFunction, FitsPlace, FitsRow, IsLiteral, literal_functions, result_width, table_at}
use Rattle.runtime_defs.specs.EntryPlaces.{all_entries, entries_from, entries_of_places, entry_at, entry_size, key_pattern, key_patterns, place_entries, result_value, row_entry}
use Rattle.runtime_defs.proofs.Fits.{widths_counted}
use Rattle.runtime_defs.proofs.OwnNames.{Apart, Distinct, same_self, same_turned}

-- ---- the function of an entry

-- for each function
abbrev Each : (FunctionDecl → Type 0) → List FunctionDecl → Type 0
Each P [] = Unit {0}
Each P (f ∷ fs) = P f × Each P fs

abbrev Found : List FunctionDecl → FunctionDecl → Type 0
Found fs f = named (λ (x : FunctionDecl). x.name) f.name.text fs ≡ Some f

found_later : (f : FunctionDecl) (all fs : List FunctionDecl) → Apart f.name.text fs → Each (Found all) fs → Each (Found (f ∷ all)) fs
found_later f all [] a h = tt
found_later f all (g ∷ fs) a h =
    (cond-false (same_name g.name.text f.name.text) (Some f) _ a.0 ∙ h.0, found_later f all fs a.1 h.1)

all_found : (fs : List FunctionDecl) → Distinct fs → Each (Found fs) fs
all_found [] d = tt
all_found (f ∷ fs) d = (cond-true (same_name f.name.text f.name.text) (Some f) _ (same_self f.name.text), found_later f fs fs d.0 (all_found fs d.1))

without_body : Option FunctionDecl → Option FunctionDecl
without_body o = option_and_then (λ (x : FunctionDecl). elim x.body [ None ↦ Some x | Some e ↦ None ]) o

runtime_found : (d : Design) (f : FunctionDecl) → Found (functions d) f → f.body ≡ None → runtime_named d f.name.text ≡ Some f
runtime_found d f h b =
    ap (option_and_then (λ (x : FunctionDecl). elim x.body as (λ _. Option FunctionDecl) [ None ↦ Some x | Some e ↦ None ])) h
    ∙ ap (λ (o : Option Expr). elim o as (λ _. Option FunctionDecl) [ None ↦ Some f | Some e ↦ None ]) b

-- ---- patterns and values

pattern_kept : (w v m : ℕ) → pattern_fits (key_pattern w v m) w ≡ true
pattern_kept w v m =
    let same : (w == w) ≡ true = eq-eqb w w refl in
    cond_both (m == 2 ^ w - 1) (literal w v) _ (λ p. pattern_fits p w ≡ true) (λ e. same)
    (λ e. cond_both (m == 0) any (masked w v w m) (λ p. pattern_fits p w ≡ true) (λ z. refl) (λ z. ap₂ (λ a b. a && b) same same))

patterns_kept : (ws vs ms : List ℕ) → length vs ≡ length ws → length ms ≡ length ws → patterns_fit (key_patterns ws vs ms) ws ≡ true
patterns_kept [] vs ms h k = refl
patterns_kept (w ∷ ws) [] ms h k = absurd (omega (arith, h))
patterns_kept (w ∷ ws) (v ∷ vs) [] h k = absurd (omega (arith, k))
patterns_kept (w ∷ ws) (v ∷ vs) (m ∷ ms) h k = ap₂ (λ a b. a && b) (pattern_kept w v m) (patterns_kept ws vs ms (omega (arith, h)) (omega (arith, k)))

value_kept : (f : FunctionDecl) (kind : ResultKind) (b : Bits) → f.result ≡ kind → b.width ≡ result_width kind → value_fits f (result_value kind b) ≡ true
value_kept f (of_width w) b e h = search (e, h, eq-eqb w w refl)
value_kept f of_truth b e h = search (e)

row_kept : (f : FunctionDecl) (ws : List ℕ) (row : FunRow) → ws ≡ widths_of f.params → FitsRow ws (result_width f.result) row → entry_fits f (row_entry f ws row) ≡ true
row_kept f ws row e h =
    let values = widths_counted ws row.values h.values_fit in
    let masks = widths_counted ws row.masks h.masks_fit in
    ap₂ (λ a b. a && b) (ap (λ us. patterns_fit (key_patterns ws row.values row.masks) us) (sym e) ∙ patterns_kept ws row.values row.masks values masks) (value_kept f f.result row.result refl h.result_is)

-- ---- the entries in order

abbrev faults_of : ℕ → Entry → List (List ℕ) → Option FunctionDecl → List DefsFault
faults_of at e seen o = elim o as (λ _. List DefsFault) [ None ↦ unknown_function at ∷ [] | Some f ↦ row_faults at (entry_fits f e) ++ default_faults seen e ]

row_clean : (d : Design) (seen : List (List ℕ)) (f : FunctionDecl) (ws : List ℕ) (row : FunRow) (i : ℕ) → runtime_named d f.name.text ≡ Some f → ws ≡ widths_of f.params → FitsRow ws (result_width f.result) row
    → entry_faults d seen (entry_at i (row_entry f ws row)) ≡ []
row_clean d seen f ws row i r e h =
    ap (faults_of (i + 1) (entry_at i (row_entry f ws row)) seen) r ∙ ap (λ t. row_faults (i + 1) t ++ []) (row_kept f ws row e h)

rows_clean : (d : Design) (seen : List (List ℕ)) (f : FunctionDecl) (ws : List ℕ) (rows : List FunRow) (rest : List Entry) → runtime_named d f.name.text ≡ Some f → ws ≡ widths_of f.params → All (FitsRow ws (result_width f.result)) rows
    → ((j : ℕ) → entries_faults d seen (entries_from j rest) ≡ []) → (i : ℕ) → entries_faults d seen (entries_from i (map (row_entry f ws) rows ++ rest)) ≡ []
rows_clean d seen f ws [] rest r e h k i = k i
rows_clean d seen f ws (row ∷ rows) rest r e h k i =
    ap₂ (λ xs ys. xs ++ ys) (row_clean d seen f ws row i r e (All-head (FitsRow ws (result_width f.result)) row rows h))
    (rows_clean d seen f ws rows rest r e (All-tail (FitsRow ws (result_width f.result)) row rows h) k (i + entry_size (row_entry f ws row)))

-- none of the functions is among these
abbrev Unseen : List (List ℕ) → FunctionDecl → Type 0
Unseen seen f = is_one_of seen f.name.text ≡ false

still_unseen : (x : List ℕ) (seen : List (List ℕ)) (fs : List FunctionDecl) → Apart x fs → Each (Unseen seen) fs → Each (Unseen (x ∷ seen)) fs
still_unseen x seen [] a h = tt
still_unseen x seen (g ∷ fs) a h =
    (ap₂ (λ a b. a || b) (same_turned x g.name.text ∙ a.0) h.0, still_unseen x seen fs a.1 h.1)

default_clean : (d : Design) (seen : List (List ℕ)) (f : FunctionDecl) (t : FunTable) (i : ℕ) → runtime_named d f.name.text ≡ Some f → FitsFunction f t → Unseen seen f
    → entry_faults d seen (entry_at i (a_default f.name (result_value f.result t.default))) ≡ []
default_clean d seen f t i r h u =
    ap (faults_of (i + 1) (entry_at i (a_default f.name (result_value f.result t.default))) seen) r
    ∙ ap₂ (λ a b. row_faults (i + 1) a ++ (if b then two_defaults (i + 1) ∷ [] else [])) (value_kept f f.result t.default refl h.default_is) u

entries_clean : (d : Design) (seen : List (List ℕ)) (fs : List FunctionDecl) (ps : List (Option FunTable)) → Each (Found (functions d)) fs → Distinct fs → Each (Unseen seen) fs → AllZip FitsPlace fs ps
    → (i : ℕ) → entries_faults d seen (entries_from i (all_entries fs ps)) ≡ []
entries_clean d seen [] ps n a u h i = refl
entries_clean d seen (f ∷ fs) [] n a u h i = absurd h
entries_clean d seen (f ∷ fs) (None ∷ ps) n a u h i = entries_clean d seen fs ps n.1 a.1 u.1 h.1 i
entries_clean d seen (f ∷ fs) (Some t ∷ ps) n a u h i =
    let r = runtime_found d f n.0 h.0.0 in
    ap₂ (λ xs ys. xs ++ ys) (default_clean d seen f t i r h.0.1 u.0)
    (rows_clean d (f.name.text ∷ seen) f t.widths t.rows (all_entries fs ps) r h.0.1.widths_are h.0.1.rows_fit
    (entries_clean d (f.name.text ∷ seen) fs ps n.1 a.1 (still_unseen f.name.text seen fs a.0 u.1) h.1) (i + 5))

none_seen : (fs : List FunctionDecl) → Each (Unseen []) fs
none_seen [] = tt
none_seen (f ∷ fs) = (refl, none_seen fs)

-- ---- defaults

same_defaulted : (i : ℕ) (es : List Entry) → defaulted (entries_from i es) ≡ defaulted es
same_defaulted i [] = refl
same_defaulted i (a_default f v ∷ es) = ap (λ xs. f.text ∷ xs) (same_defaulted (i + 5) es)
same_defaulted i (a_row f ps v ∷ es) = same_defaulted (i + entry_size (a_row f ps v)) es

-- the function has a body, or is one of these
abbrev Given : List (List ℕ) → FunctionDecl → Type 0
Given names f = (is_some f.body || is_one_of names f.name.text) ≡ true

or_right : (a b : Bool) → b ≡ true → (a || b) ≡ true
or_right true b h = refl
or_right false b h = h

given_more : (names more : List (List ℕ)) (fs : List FunctionDecl) → Each (Given more) fs → Each (Given (names ++ more)) fs
given_more names more [] h = tt
given_more names more (f ∷ fs) h = (still (is_some f.body) h.0, given_more names more fs h.1)
  where
    still : (b : Bool) → (b || is_one_of more f.name.text) ≡ true → (b || is_one_of (names ++ more) f.name.text) ≡ true
    still true k = refl
    still false k = list_any-append (λ y. same_name y f.name.text) names more ∙ or_right (is_one_of names f.name.text) (is_one_of more f.name.text) k

defaulted_both : (es fs : List Entry) → defaulted (es ++ fs) ≡ defaulted es ++ defaulted fs
defaulted_both [] fs = refl
defaulted_both (a_default f v ∷ es) fs = ap (λ xs. f.text ∷ xs) (defaulted_both es fs)
defaulted_both (a_row f ps v ∷ es) fs = defaulted_both es fs

place_given : (f : FunctionDecl) (p : Option FunTable) (rest : List Entry) → FitsPlace f p → Given (defaulted (place_entries f p ++ rest)) f
place_given f None rest h = ap (λ b. b || is_one_of (defaulted rest) f.name.text) h
place_given f (Some t) rest h =
    or_right (is_some f.body) _ (ap (λ b. b || is_one_of (defaulted (map (row_entry f t.widths) t.rows ++ rest)) f.name.text) (same_self f.name.text))

all_given : (fs : List FunctionDecl) (ps : List (Option FunTable)) → AllZip FitsPlace fs ps → Each (Given (defaulted (all_entries fs ps))) fs
all_given [] ps h = tt
all_given (f ∷ fs) [] h = absurd h
all_given (f ∷ fs) (p ∷ ps) h = (
  place_given f p (all_entries fs ps) h.0,
  subst (λ ns. Each (Given ns) fs) (sym (defaulted_both (place_entries f p) (all_entries fs ps))) (given_more (defaulted (place_entries f p)) (defaulted (all_entries fs ps)) fs (all_given fs ps h.1)),
)

none_missing : (names : List (List ℕ)) (fs : List FunctionDecl) → Each (Given names) fs
    → flat_map (λ (f : FunctionDecl). if is_some f.body || is_one_of names f.name.text then [] else no_default f.name.text ∷ []) fs ≡ []
none_missing names [] h = refl
none_missing names (f ∷ fs) h = ap₂ (λ xs ys. xs ++ ys) (cond-true (is_some f.body || is_one_of names f.name.text) [] _ h.0) (none_missing names fs h.1)

-- ---- literal rows

-- the entry is of none of these functions, or it is literal
abbrev Keeps : List (List ℕ) → Entry → Type 0
Keeps names e = (is_one_of names (entry_function e).text && not (is_literal_entry e)) ≡ false

abbrev AllKeep : List (List ℕ) → List Entry → Type 0
AllKeep names [] = Unit {0}
AllKeep names (e ∷ es) = Keeps names e × AllKeep names es

keep_both : (names : List (List ℕ)) (es fs : List Entry) → AllKeep names es → AllKeep names fs → AllKeep names (es ++ fs)
keep_both names [] fs h k = k
keep_both names (e ∷ es) fs h k = (h.0, keep_both names es fs h.1 k)

none_other : (names : List (List ℕ)) (fault : ℕ → DefsFault) (es : List Entry) → AllKeep names es → (i : ℕ) → other_entries names fault (entries_from i es) ≡ []
none_other names fault [] h i = refl
none_other names fault (a_default f v ∷ es) h i = ap₂ (λ xs ys. xs ++ ys) (cond-false _ (fault (i + 1) ∷ []) [] h.0) (none_other names fault es h.1 (i + 5))
none_other names fault (a_row f ps v ∷ es) h i = ap₂ (λ xs ys. xs ++ ys) (cond-false _ (fault (i + 1) ∷ []) [] h.0) (none_other names fault es h.1 (i + entry_size (a_row f ps v)))

ones_literal : (ws vs ms : List ℕ) → ms ≡ all_ones ws → list_all is_literal (key_patterns ws vs ms) ≡ true
ones_literal [] vs ms h = refl
ones_literal (w ∷ ws) [] ms h = refl
ones_literal (w ∷ ws) (v ∷ vs) [] h = refl
ones_literal (w ∷ ws) (v ∷ vs) (m ∷ ms) h =
    let one : m ≡ 2 ^ w - 1 = cc in
    let rest : ms ≡ all_ones ws = cc in
    ap₂ (λ a b. a && b) (ap is_literal (cond-true (m == 2 ^ w - 1) (literal w v) _ (eq-eqb m (2 ^ w - 1) one))) (ones_literal ws vs ms rest)

keeps_unless : (b l : Bool) → (b ≡ true → l ≡ true) → (b && not l) ≡ false
keeps_unless false l h = refl
keeps_unless true l h = ap not (h refl)

rows_keep : (names : List (List ℕ)) (f : FunctionDecl) (ws : List ℕ) (rows : List FunRow) → (is_one_of names f.name.text ≡ true → All (λ (row : FunRow). row.masks ≡ all_ones ws) rows) → AllKeep names (map (row_entry f ws) rows)
rows_keep names f ws [] h = tt
rows_keep names f ws (row ∷ rows) h = (
  keeps_unless (is_one_of names f.name.text) _ (λ o. ones_literal ws row.values row.masks (All-head (λ (r : FunRow). r.masks ≡ all_ones ws) row rows (h o))),
  rows_keep names f ws rows (λ o. All-tail (λ (r : FunRow). r.masks ≡ all_ones ws) row rows (h o)),
)

-- a table is literal at the place of a function that is one of these
abbrev LiteralPlace : List (List ℕ) → FunctionDecl → Option FunTable → Type 0
LiteralPlace names f None = Unit {0}
LiteralPlace names f (Some t) = is_one_of names f.name.text ≡ true → IsLiteral f t

place_keeps : (names : List (List ℕ)) (f : FunctionDecl) (p : Option FunTable) → LiteralPlace names f p → AllKeep names (place_entries f p)
place_keeps names f None h = tt
place_keeps names f (Some t) h =
    (keeps_unless (is_one_of names f.name.text) _ (λ o. ap is_false (h o).default_false), rows_keep names f t.widths t.rows (λ o. (h o).masks_ones))

all_keep : (names : List (List ℕ)) (fs : List FunctionDecl) (ps : List (Option FunTable)) → AllZip (LiteralPlace names) fs ps → AllKeep names (all_entries fs ps)
all_keep names [] ps h = tt
all_keep names (f ∷ fs) [] h = absurd h
all_keep names (f ∷ fs) (p ∷ ps) h = keep_both names (place_entries f p) (all_entries fs ps) (place_keeps names f p h.0) (all_keep names fs ps h.1)

literal_first : (names : List (List ℕ)) (f : FunctionDecl) (p : Option FunTable) → ((t : FunTable) → p ≡ Some t → is_one_of names f.name.text ≡ true → IsLiteral f t) → LiteralPlace names f p
literal_first names f None h = tt
literal_first names f (Some t) h = h t refl

literal_places : (names : List (List ℕ)) (fs : List FunctionDecl) (ps : List (Option FunTable)) → AllZip FitsPlace fs ps
    → ((n : ℕ) (f : FunctionDecl) (t : FunTable) → slice_get fs n ≡ Some f → table_at ps n ≡ Some t → is_one_of names f.name.text ≡ true → IsLiteral f t) → AllZip (LiteralPlace names) fs ps
literal_places names [] [] h k = tt
literal_places names [] (p ∷ ps) h k = absurd h
literal_places names (f ∷ fs) [] h k = absurd h
literal_places names (f ∷ fs) (p ∷ ps) h k = (literal_first names f p (λ t e. k 0 f t refl e), literal_places names fs ps h.1 (λ n g t e. k (suc n) g t e))

-- what keeps for names in two parts keeps for each of them
first_keeps : (a b l : Bool) → ((a || b) && not l) ≡ false → (a && not l) ≡ false
first_keeps true b l h = h
first_keeps false b l h = refl

last_keeps : (a b l : Bool) → ((a || b) && not l) ≡ false → (b && not l) ≡ false
last_keeps true true l h = h
last_keeps true false l h = refl
last_keeps false b l h = h

each_keep : (names more : List (List ℕ)) (es : List Entry) → AllKeep (names ++ more) es → AllKeep names es × AllKeep more es
each_keep names more [] h = (tt, tt)
each_keep names more (e ∷ es) h =
    let x = (entry_function e).text in
    let l = is_literal_entry e in
    let both : ((is_one_of names x || is_one_of more x) && not l) ≡ false = ap (λ b. b && not l) (sym (list_any-append (λ y. same_name y x) names more)) ∙ h.0 in
    let rest = each_keep names more es h.1 in
    ((first_keeps (is_one_of names x) (is_one_of more x) l both, rest.0), (last_keeps (is_one_of names x) (is_one_of more x) l both, rest.1))

-- ---- all

pub places_have_no_fault : (d : Design) (ps : List (Option FunTable)) → Distinct (functions d) → FitsDesign d ps → DefsFit d (entries_of_places d ps)
places_have_no_fault d ps a h =
    let es = all_entries (functions d) ps in
    let keep = each_keep (guard_calls d) (fork_calls d) es (all_keep (literal_functions d) (functions d) ps (literal_places (literal_functions d) (functions d) ps h.places h.literal)) in
    let entries : entries_faults d [] (entries_from 0 es) ≡ [] = entries_clean d [] (functions d) ps (all_found (functions d) a) a (none_seen (functions d)) h.places 0 in
    let missing : missing_defaults d (entries_from 0 es) ≡ [] =
    none_missing (defaulted (entries_from 0 es)) (functions d) (subst (λ ns. Each (Given ns) (functions d)) (sym (same_defaulted 0 es)) (all_given (functions d) ps h.places)) in
    let guards : other_entries (guard_calls d) guard_rows (entries_from 0 es) ≡ [] = none_other (guard_calls d) guard_rows es keep.0 0 in
    let forks : other_entries (fork_calls d) fork_rows (entries_from 0 es) ≡ [] = none_other (fork_calls d) fork_rows es keep.1 0 in
    ap₂ (λ xs ys. xs ++ ys) (ap₂ (λ xs ys. xs ++ ys) (ap₂ (λ xs ys. xs ++ ys) entries missing) guards) forks
