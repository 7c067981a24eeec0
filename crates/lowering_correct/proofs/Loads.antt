-- The rows of a program load into it.
use Rattle.std.proofs.Common.{◌≡◌, ℕ, zero, suc, ◌+◌, ◌-◌, ◌^◌, ◌≤◌, ◌<◌, ◌==◌, ◌&&◌, ◌||◌, nat_lt, nat_le, bit_and, Bool, true, false, not, List, [], ◌∷◌, ◌++◌, map, length, All, slice_get, Some, None, if◌then◌else◌, arith, refl, sym, ap, ap₂, subst, ◌∙◌}
use Rattle.std.specs.Prelude.{flat_map}
use Rattle.std.proofs.lemmas.Bool.Decides.{nat_tests}
use Rattle.std.proofs.lemmas.List.{append_assoc}
use Rattle.std.proofs.lemmas.List.Elements.{All-head, All-tail}
use Rattle.std.proofs.lemmas.Nat.{and_le_l, pow_pos}
use Rattle.cocoon_num.specs.Lists.{each, has_number, no_repeats}
use Rattle.cocoon_num.specs.Names.{same_name}
use Rattle.cocoon_num.specs.Tree.{Param, ResultKind, of_width, of_truth, Design}
use Rattle.cocoon_num.specs.Values.{fits_width}
use Rattle.cocoon_num.specs.declared.bits.Bits.{Bits}
use Rattle.cocoon_num.specs.declared.fun_table.FunRow.{FunRow}
use Rattle.cocoon_types.specs.Design.{widths_of}
use Rattle.cocoon_types.specs.Rules.{WellFormed}
use Rattle.lowering.specs.Log.{Placed, tables_in, widths_in}
use Rattle.lowering.specs.Lower.{Made, a_field, a_table, a_group, kind_width}
use Rattle.lowering.specs.Whole.{SwitchRole, role_lowered}
use Rattle.lowering_correct.specs.Groups.{ForkGroup, fork_groups}
use Rattle.lowering.specs.SwitchProgram.{egress_lowered, fields_in, switch_made, switch_program}
use Rattle.lowering_correct.specs.SwitchRows.{function_rows, groups_from, key_row, made_rows, masked, rows_from, switch_rows}
use Rattle.lowering_correct.proofs.Found.{below-width, both-true, number-fits, Tabled, tabled}
use Rattle.lowering_correct.proofs.GroupNumbers.{groups-fit, GroupsFit}
use Rattle.lowering_correct.proofs.Ordered.{found-at, no-repeats, Runs}
use Rattle.lowering_correct.proofs.Right.{groups-are-right, GroupsRight}
use Rattle.lowering_correct.proofs.Serves.{function-number-is, row-number, rows-run}
use Rattle.lowering_correct.specs.Logs.{AllOf, HoldsFunction, HoldsGroups, IsLogOf, KeysAre}
use Rattle.p4_ir.specs.Loading.{all_tables, group_fits, key_fits, keys_fit, row_fits, rows_load, table_numbers, table_rows_fit}
use Rattle.p4_ir.specs.P4Tree.{Group, KeyRow, meta_width, P4Field, P4Table, Program, TableRows, field_widths}
use Rattle.p4_ir.specs.Switch.{table_numbered}
use Rattle.runtime_defs.specs.Fitting.{all_ones, FitsDesign, FitsRow, result_width}
use Rattle.runtime_defs.specs.Guards.{table_named}
use Rattle.runtime_defs.specs.Places.{Places, all_fit_widths}

-- ---- the program

-- the meta fields have these widths
record HasWidths (p : Program) (widths : List ℕ) : Type 0 where
  are : field_widths p.meta ≡ widths

fields-are : (ms : List Made) → field_widths (fields_in ms) ≡ widths_in ms
fields-are [] = refl
fields-are (a_field x i w ∷ ms) = ap (λ ws. w ∷ ws) (fields-are ms)
fields-are (a_table t f ps ∷ ms) = fields-are ms
fields-are (a_group t f ps ∷ ms) = fields-are ms

width-at : (fs : List P4Field) (i w : ℕ) → slice_get (field_widths fs) i ≡ Some w → elim (slice_get fs i) [ Some f ↦ f.width | None ↦ 0 ] ≡ w
width-at [] i w h = absurd cc
width-at (f ∷ fs) zero w h = cc
width-at (f ∷ fs) (suc i) w h = width-at fs i w h

meta-width : (p : Program) (widths : List ℕ) → HasWidths p widths → (i w : ℕ) → slice_get widths i ≡ Some w → meta_width p i ≡ w
meta-width p widths h i w e = width-at p.meta i w (ap (λ ws. slice_get ws i) h.are ∙ e)

tables-both : (ms ns : List Made) → tables_in (ms ++ ns) ≡ tables_in ms ++ tables_in ns
tables-both [] ns = refl
tables-both (a_field x i w ∷ ms) ns = tables-both ms ns
tables-both (a_table t f ps ∷ ms) ns = ap (λ ts. t ∷ ts) (tables-both ms ns)
tables-both (a_group t f ps ∷ ms) ns = ap (λ ts. t ∷ ts) (tables-both ms ns)

all-tables : (r : SwitchRole) (s : ℕ) → all_tables (switch_program r s) ≡ tables_in (switch_made r s)
all-tables r s = sym (tables-both (role_lowered r s).made (egress_lowered r s).made)

-- ---- numbers of tables

abbrev pub table-number : P4Table → ℕ
table-number t = t.number

pub tables-run : (i a j b : ℕ) (ms : List Made) → Placed i a ms j b → Runs table-number a (tables_in ms) b
tables-run i a j b [] p = p.1
tables-run i a j b (a_field x k w ∷ ms) p = tables-run (suc i) a j b ms p.1
tables-run i a j b (a_table t f ps ∷ ms) p = (p.0, tables-run i (suc a) j b ms p.1)
tables-run i a j b (a_group t f ps ∷ ms) p = (p.0, tables-run i (suc a) j b ms p.1)

-- rows have the numbers of the tables
numbers-are : (d : Design) (places : Places) (ms : List Made) → table_numbers (flat_map (made_rows d places) ms) ≡ map table-number (tables_in ms)
numbers-are d places [] = refl
numbers-are d places (a_field x i w ∷ ms) = numbers-are d places ms
numbers-are d places (a_table t f ps ∷ ms) = ap₂ (λ n ns. n ∷ ns) (function-number-is t.number (table_named d places f)) (numbers-are d places ms)
numbers-are d places (a_group t f ps ∷ ms) = ap (λ ns. t.number ∷ ns) (numbers-are d places ms)

same-number : (n : ℕ) → (n == n) ≡ true
same-number n = grind (arith, nat_tests)

or-there : (a b : Bool) → b ≡ true → (a || b) ≡ true
or-there true b h = refl
or-there false b h = h

number-there : (n : ℕ) (pre post : List ℕ) → has_number n (pre ++ n ∷ post) ≡ true
number-there n [] post = ap (λ b. b || has_number n post) (same-number n)
number-there n (m ∷ pre) post = or-there (n == m) (has_number n (pre ++ n ∷ post)) (number-there n pre post)

-- each is there
each-there : (pre : List ℕ) (ts : List P4Table) → each (λ (t : P4Table). has_number t.number (pre ++ map table-number ts)) ts ≡ true
each-there pre [] = refl
each-there pre (t ∷ ts) =
    ap₂ (◌&&◌) (number-there t.number pre (map table-number ts))
    (subst (λ ns. each (λ (u : P4Table). has_number u.number ns) ts ≡ true) (append_assoc pre (t.number ∷ []) (map table-number ts)) (each-there (pre ++ t.number ∷ []) ts))

-- ---- keys and results

masked-key : (w v m : ℕ) → fits_width w v ≡ true → fits_width w m ≡ true → key_fits false w (bit_and v m) m ≡ true
masked-key w v m h k =
    let low = and_le_l v m in
    let under = below-width w v h in
    ap₂ (λ a b. a && b && true) (number-fits w (bit_and v m) (omega (arith, low, under))) k

masked-keys : (p : Program) (widths : List ℕ) → HasWidths p widths → (keys : List ℕ) (ps : List Param) (vs ms : List ℕ) → KeysAre widths keys ps
    → all_fit_widths (widths_of ps) vs ≡ true → all_fit_widths (widths_of ps) ms ≡ true → keys_fit p false keys (masked vs ms) ms ≡ true
masked-keys p widths h [] [] [] [] k f g = refl
masked-keys p widths h [] [] [] (m ∷ ms) k f g = absurd cc
masked-keys p widths h [] [] (v ∷ vs) ms k f g = absurd cc
masked-keys p widths h [] (q ∷ ps) vs ms k f g = absurd k
masked-keys p widths h (i ∷ keys) [] vs ms k f g = absurd k
masked-keys p widths h (i ∷ keys) (q ∷ ps) [] ms k f g = absurd cc
masked-keys p widths h (i ∷ keys) (q ∷ ps) (v ∷ vs) [] k f g = absurd cc
masked-keys p widths h (i ∷ keys) (q ∷ ps) (v ∷ vs) (m ∷ ms) k f g =
    let fs = both-true (fits_width q.width v) (all_fit_widths (widths_of ps) vs) f in
    let gs = both-true (fits_width q.width m) (all_fit_widths (widths_of ps) ms) g in
    ap₂ (◌&&◌) (ap (λ w. key_fits false w (bit_and v m) m) (meta-width p widths h i q.width k.0) ∙ masked-key q.width v m fs.0 gs.0) (masked-keys p widths h keys ps vs ms k.1 fs.1 gs.1)

ones-key : (exact : Bool) (w v : ℕ) → fits_width w v ≡ true → key_fits exact w v (2 ^ w - 1) ≡ true
ones-key exact w v h =
    let some = pow_pos w in
    ap₂ (λ a b. a && b && (not exact || nat_le (2 ^ w) (2 ^ w - 1 + 1))) h (number-fits w (2 ^ w - 1) (omega (arith, some)))
    ∙ or-there (not exact) (nat_le (2 ^ w) (2 ^ w - 1 + 1)) (enough (2 ^ w) some)
  where
    enough : (n : ℕ) → 0 < n → nat_le n (n - 1 + 1) ≡ true
    enough n l = grind (arith, nat_tests, l)

ones-keys : (p : Program) (widths : List ℕ) → HasWidths p widths → (exact : Bool) (keys : List ℕ) (ps : List Param) (vs : List ℕ) → KeysAre widths keys ps
    → all_fit_widths (widths_of ps) vs ≡ true → keys_fit p exact keys vs (all_ones (widths_of ps)) ≡ true
ones-keys p widths h exact [] [] [] k f = refl
ones-keys p widths h exact [] [] (v ∷ vs) k f = absurd cc
ones-keys p widths h exact [] (q ∷ ps) vs k f = absurd k
ones-keys p widths h exact (i ∷ keys) [] vs k f = absurd k
ones-keys p widths h exact (i ∷ keys) (q ∷ ps) [] k f = absurd cc
ones-keys p widths h exact (i ∷ keys) (q ∷ ps) (v ∷ vs) k f =
    let fs = both-true (fits_width q.width v) (all_fit_widths (widths_of ps) vs) f in
    ap₂ (◌&&◌) (ap (λ w. key_fits exact w v (2 ^ q.width - 1)) (meta-width p widths h i q.width k.0) ∙ ones-key exact q.width v fs.0) (ones-keys p widths h exact keys ps vs k.1 fs.1)

same-kinds : (kind : ResultKind) → kind_width kind ≡ result_width kind
same-kinds (of_width w) = refl
same-kinds of_truth = refl

bits-fit : (b : Bits) (w : ℕ) → b.width ≡ w → nat_lt b.value (2 ^ w) ≡ true
bits-fit b w e = number-fits w b.value (subst (λ u. b.value < 2 ^ u) e b.fits)

-- ---- the rows of one table

row-loads : (p : Program) (widths : List ℕ) → HasWidths p widths → (t : P4Table) (ps : List Param) (r : ℕ) (row : FunRow) → t.exact ≡ false → KeysAre widths t.keys ps → meta_width p t.result ≡ r
    → FitsRow (widths_of ps) r row → row_fits p t (key_row row) ≡ true
row-loads p widths h t ps r row e k m f =
    ap₂ (◌&&◌) (ap (λ exact. keys_fit p exact t.keys (masked row.values row.masks) row.masks) e ∙ masked-keys p widths h t.keys ps row.values row.masks k f.values_fit f.masks_fit)
    (ap (λ w. nat_lt row.result.value (2 ^ w)) m ∙ bits-fit row.result r f.result_is)

rows-load-in : (p : Program) (widths : List ℕ) → HasWidths p widths → (t : P4Table) (ps : List Param) (r : ℕ) (rows : List FunRow) → t.exact ≡ false → KeysAre widths t.keys ps → meta_width p t.result ≡ r
    → All (FitsRow (widths_of ps) r) rows → each (row_fits p t) (map key_row rows) ≡ true
rows-load-in p widths h t ps r [] e k m f = refl
rows-load-in p widths h t ps r (row ∷ rows) e k m f =
    ap₂ (◌&&◌) (row-loads p widths h t ps r row e k m (All-head (FitsRow (widths_of ps) r) row rows f))
    (rows-load-in p widths h t ps r rows e k m (All-tail (FitsRow (widths_of ps) r) row rows f))

function-loads : (d : Design) (places : Places) (p : Program) (widths : List ℕ) → HasWidths p widths → FitsDesign d places → (t : P4Table) (f : List ℕ) (ps : List Param) → HoldsFunction d widths t f ps
    → table_rows_fit p (Some t) (function_rows t.number (table_named d places f)) ≡ true
function-loads d places p widths h z t f ps held =
    let g = held.function in
    let table : Tabled d places f g = tabled d places f g z held.named in
    let width : meta_width p t.result ≡ result_width g.result = meta-width p widths h t.result (kind_width g.result) held.result ∙ same-kinds g.result in
    let rows = subst (λ ws. All (FitsRow ws (result_width g.result)) table.table.rows) (table.fits.widths_are ∙ ap widths_of (sym held.params)) table.fits.rows_fit in
    ap (λ o. table_rows_fit p (Some t) (function_rows t.number o)) table.named
    ∙ ap₂ (◌&&◌) (rows-load-in p widths h t ps (result_width g.result) table.table.rows held.ternary held.keys width rows)
    (ap (λ w. nat_lt table.table.default.value (2 ^ w)) width ∙ bits-fit table.table.default (result_width g.result) table.fits.default_is)

group-row : (p : Program) (widths : List ℕ) → HasWidths p widths → (t : P4Table) (ps : List Param) (args : List ℕ) (k : ℕ) → KeysAre widths t.keys ps → meta_width p t.result ≡ 16
    → all_fit_widths (widths_of ps) args ≡ true → k < 2 ^ 16 → row_fits p t (record { values = args; masks = all_ones (widths_of ps); result = k }) ≡ true
group-row p widths h t ps args k keys m f l =
    ap₂ (◌&&◌) (ones-keys p widths h t.exact t.keys ps args keys f) (ap (λ w. nat_lt k (2 ^ w)) m ∙ number-fits 16 k l)

one-group : (p : Program) (t : P4Table) (row : KeyRow) (rows : List KeyRow) (b : Bool) → (b ≡ true → row_fits p t row ≡ true) → each (row_fits p t) rows ≡ true → each (row_fits p t) ((if b then row ∷ [] else []) ++ rows) ≡ true
one-group p t row rows true h k = ap₂ (◌&&◌) (h refl) k
one-group p t row rows false h k = k

groups-load : (p : Program) (widths : List ℕ) → HasWidths p widths → (t : P4Table) (f : List ℕ) (ps : List Param) (k : ℕ) (gs : List ForkGroup) → KeysAre widths t.keys ps → meta_width p t.result ≡ 16
    → GroupsFit (widths_of ps) f gs → k + length gs ≤ 2 ^ 16 → each (row_fits p t) (rows_from (all_ones (widths_of ps)) k gs f) ≡ true
groups-load p widths h t f ps k [] keys m z l = refl
groups-load p widths h t f ps k (g ∷ gs) keys m z l =
    one-group p t (record { values = g.grouped.args; masks = all_ones (widths_of ps); result = k }) (rows_from (all_ones (widths_of ps)) (suc k) gs f) (same_name f g.function)
    (λ s. group-row p widths h t ps g.grouped.args k keys m (z.0 s) (omega (arith, l)))
    (groups-load p widths h t f ps (suc k) gs keys m z.1 (omega (arith, l)))

group-table-loads : (d : Design) (places : Places) (p : Program) (widths : List ℕ) → HasWidths p widths → WellFormed d → FitsDesign d places → length (fork_groups d places) < 2 ^ 16
    → (t : P4Table) (f : List ℕ) (ps : List Param) → HoldsGroups d widths t f ps
    → table_rows_fit p (Some t) (record { number = t.number; otherwise = 0; rows = rows_from (all_ones (widths_of ps)) 1 (fork_groups d places) f }) ≡ true
group-table-loads d places p widths h w z few t f ps held =
    let width : meta_width p t.result ≡ 16 = meta-width p widths h t.result 16 held.result in
    ap₂ (◌&&◌) (groups-load p widths h t f ps 1 (fork_groups d places) held.keys width
    (subst (λ qs. GroupsFit (widths_of qs) f (fork_groups d places)) (sym held.params) (groups-fit d places f held.function w z held.named)) (omega (arith, few)))
    (ap (λ n. nat_lt 0 (2 ^ n)) width)

-- ---- the rows of all tables

table-there : (tables : List P4Table) (a b : ℕ) (pre post : List P4Table) (t : P4Table) → tables ≡ pre ++ t ∷ post → Runs table-number a tables b → table_numbered tables t.number ≡ Some t
table-there tables a b pre post t e h =
    ap (λ ts. table_numbered ts t.number) e ∙ found-at table-number a b pre post t (subst (λ ts. Runs table-number a ts b) e h)

all-load : (d : Design) (places : Places) (p : Program) (widths : List ℕ) (tables : List P4Table) (a b : ℕ) → HasWidths p widths → WellFormed d → FitsDesign d places → length (fork_groups d places) < 2 ^ 16
    → Runs table-number a tables b → (pre : List P4Table) (ms : List Made) → tables ≡ pre ++ tables_in ms → AllOf d widths ms
    → each (λ (r : TableRows). table_rows_fit p (table_numbered tables r.number) r) (flat_map (made_rows d places) ms) ≡ true
all-load d places p widths tables a b h w z few run pre [] e held = refl
all-load d places p widths tables a b h w z few run pre (a_field x i u ∷ ms) e held = all-load d places p widths tables a b h w z few run pre ms e held.1
all-load d places p widths tables a b h w z few run pre (a_table t f ps ∷ ms) e held =
    let r = function_rows t.number (table_named d places f) in
    ap₂ (◌&&◌) (ap (λ n. table_rows_fit p (table_numbered tables n) r) (function-number-is t.number (table_named d places f))
    ∙ ap (λ o. table_rows_fit p o r) (table-there tables a b pre (tables_in ms) t e run) ∙ function-loads d places p widths h z t f ps held.0)
    (all-load d places p widths tables a b h w z few run (pre ++ t ∷ []) ms (e ∙ sym (append_assoc pre (t ∷ []) (tables_in ms))) held.1)
all-load d places p widths tables a b h w z few run pre (a_group t f ps ∷ ms) e held =
    let r : TableRows = record { number = t.number; otherwise = 0; rows = rows_from (all_ones (widths_of ps)) 1 (fork_groups d places) f } in
    ap₂ (◌&&◌) (ap (λ o. table_rows_fit p o r) (table-there tables a b pre (tables_in ms) t e run) ∙ group-table-loads d places p widths h w z few t f ps held.0)
    (all-load d places p widths tables a b h w z few run (pre ++ t ∷ []) ms (e ∙ sym (append_assoc pre (t ∷ []) (tables_in ms))) held.1)

-- ---- groups

abbrev group-number-of : Group → ℕ
group-number-of g = g.number

groups-run : (k : ℕ) (gs : List ForkGroup) → Runs group-number-of k (groups_from k gs) (k + length gs)
groups-run k [] = omega arith
groups-run k (g ∷ gs) = (refl, subst (Runs group-number-of (suc k) (groups_from (suc k) gs)) (omega arith) (groups-run (suc k) gs))

groups-right : (k : ℕ) (gs : List ForkGroup) → 1 ≤ k → GroupsRight gs → each group_fits (groups_from k gs) ≡ true
groups-right k [] l h = refl
groups-right k (g ∷ gs) l h = ap₂ (◌&&◌) (ap₂ (λ b c. not b && c) (not-zero k l) h.0) (groups-right (suc k) gs (omega arith) h.2)
  where
    not-zero : (n : ℕ) → 1 ≤ n → (n == 0) ≡ false
    not-zero n m = grind (arith, nat_tests, m)

-- ---- all

and-five : (a b c e f : Bool) → a ≡ true → b ≡ true → c ≡ true → e ≡ true → f ≡ true → (a && b && c && e && f) ≡ true
and-five true true true true true h i j k l = refl
and-five false b c e f h i j k l = absurd cc
and-five true false c e f h i j k l = absurd cc
and-five true true false e f h i j k l = absurd cc
and-five true true true false f h i j k l = absurd cc
and-five true true true true false h i j k l = absurd cc

pub rows-load : (d : Design) (places : Places) (r : SwitchRole) (s : ℕ) → WellFormed d → FitsDesign d places → IsLogOf d (switch_made r s) → length (fork_groups d places) < 2 ^ 16
    → rows_load (switch_program r s) (switch_rows d places (switch_made r s)) ≡ true
rows-load d places r s w z log few =
    let made = switch_made r s in
    let p = switch_program r s in
    let rows = flat_map (made_rows d places) made in
    let groups = groups_from 1 (fork_groups d places) in
    let widths : HasWidths p (8 ∷ widths_in made) = record { are = ap (λ ws. 8 ∷ ws) (fields-are made) } in
    and-five (no_repeats (table_numbers rows)) (each (λ (t : P4Table). has_number t.number (table_numbers rows)) (all_tables p))
    (each (λ (t : TableRows). table_rows_fit p (table_numbered (all_tables p) t.number) t) rows) (no_repeats (map (λ (g : Group). g.number) groups)) (each group_fits groups)
    (no-repeats row-number 0 log.past_tables rows (rows-run d places 1 0 log.past_fields log.past_tables made log.placed))
    (ap₂ (λ ns ts. each (λ (t : P4Table). has_number t.number ns) ts) (numbers-are d places made) (all-tables r s) ∙ each-there [] (tables_in made))
    (ap (λ ts. each (λ (t : TableRows). table_rows_fit p (table_numbered ts t.number) t) rows) (all-tables r s)
    ∙ all-load d places p (8 ∷ widths_in made) (tables_in made) 0 log.past_tables widths w z few (tables-run 1 0 log.past_fields log.past_tables made log.placed) [] made refl log.tables)
    (no-repeats group-number-of 1 (1 + length (fork_groups d places)) groups (groups-run 1 (fork_groups d places)))
    (groups-right 1 (fork_groups d places) (omega arith) (groups-are-right d places w z))
