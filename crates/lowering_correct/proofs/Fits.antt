-- The numbers of rows are in their ranges.
use Rattle.std.proofs.Common.{◌≡◌, ℕ, suc, ◌+◌, ◌-◌, ◌≤◌, ◌<◌, ◌^◌, ◌==◌, ◌&&◌, nat_lt, bit_and, Bool, true, false, List, [], ◌∷◌, ◌++◌, map, length, All, if◌then◌else◌, arith, refl, sym, ap, ap₂, subst, ◌∙◌}
use Rattle.std.specs.Prelude.{flat_map}
use Rattle.std.proofs.lemmas.Bool.Decides.{nat_tests}
use Rattle.std.proofs.lemmas.List.Elements.{All-head, All-tail}
use Rattle.std.proofs.lemmas.Nat.{and_le_l, pow_pos}
use Rattle.cocoon_num.specs.Lists.{each}
use Rattle.cocoon_num.specs.Names.{same_name}
use Rattle.cocoon_num.specs.Tree.{Param, Design}
use Rattle.cocoon_num.specs.Values.{fits_width}
use Rattle.cocoon_num.specs.declared.bits.Bits.{Bits}
use Rattle.cocoon_num.specs.declared.fun_table.FunRow.{FunRow}
use Rattle.cocoon_types.specs.Design.{widths_of}
use Rattle.cocoon_types.specs.Rules.{WellFormed}
use Rattle.lowering.specs.Log.{Placed, tables_in}
use Rattle.lowering.specs.Lower.{Made, a_field, a_table, a_group, before_last_from, params_before_last}
use Rattle.lowering_correct.specs.Groups.{ForkGroup, fork_groups}
use Rattle.lowering_correct.specs.SwitchRows.{function_rows, groups_from, key_row, made_rows, masked, rows_from, switch_rows}
use Rattle.lowering_correct.proofs.Found.{below-width, both-true, number-fits, Tabled, tabled}
use Rattle.lowering_correct.proofs.GroupNumbers.{groups-fit, GroupsFit}
use Rattle.lowering_correct.proofs.Loads.{table-number, tables-run}
use Rattle.lowering_correct.proofs.Looks.{fit-length, row-lengths}
use Rattle.lowering_correct.proofs.Ordered.{below-end}
use Rattle.lowering_correct.proofs.Right.{groups-are-right, GroupsRight}
use Rattle.lowering_correct.proofs.Widths.{AllNarrow, narrow-function, narrow-number, narrow-numbers}
use Rattle.lowering_correct.specs.Logs.{AllOf, HoldsFunction, HoldsGroups, IsLogOf}
use Rattle.p4_ir.specs.Loading.{group_numbers_fit, row_numbers_fit, rows_file_fits, table_numbers_fit}
use Rattle.p4_ir.specs.P4Tree.{KeyRow, P4Table}
use Rattle.runtime_defs.specs.Fitting.{all_ones, FitsDesign, FitsRow, result_width}
use Rattle.runtime_defs.specs.Guards.{table_named}
use Rattle.runtime_defs.specs.Places.{Places, all_fit_widths}

same-number : (m n : ℕ) → m ≡ n → (m == n) ≡ true
same-number m n h = grind (arith, nat_tests, h)

and-four : (a b c e : Bool) → a ≡ true → b ≡ true → c ≡ true → e ≡ true → (a && b && c && e) ≡ true
and-four true true true true h i j k = refl
and-four false b c e h i j k = absurd cc
and-four true false c e h i j k = absurd cc
and-four true true false e h i j k = absurd cc
and-four true true true false h i j k = absurd cc

and-three : (a b c : Bool) → a ≡ true → b ≡ true → c ≡ true → (a && b && c) ≡ true
and-three true true true h i j = refl
and-three false b c h i j = absurd cc
and-three true false c h i j = absurd cc
and-three true true false h i j = absurd cc

-- ---- rows of functions

masked-length : (vs ms : List ℕ) → length vs ≡ length ms → length (masked vs ms) ≡ length ms
masked-length [] [] h = refl
masked-length [] (m ∷ ms) h = absurd cc
masked-length (v ∷ vs) [] h = absurd cc
masked-length (v ∷ vs) (m ∷ ms) h = ap suc (masked-length vs ms cc)

masked-fits : (ws vs ms : List ℕ) → all_fit_widths ws vs ≡ true → all_fit_widths ws ms ≡ true → all_fit_widths ws (masked vs ms) ≡ true
masked-fits [] [] [] f g = refl
masked-fits [] [] (m ∷ ms) f g = absurd cc
masked-fits [] (v ∷ vs) ms f g = absurd cc
masked-fits (w ∷ ws) [] ms f g = absurd cc
masked-fits (w ∷ ws) (v ∷ vs) [] f g = absurd cc
masked-fits (w ∷ ws) (v ∷ vs) (m ∷ ms) f g =
    let fs = both-true (fits_width w v) (all_fit_widths ws vs) f in
    let gs = both-true (fits_width w m) (all_fit_widths ws ms) g in
    let low = and_le_l v m in
    let under = below-width w v fs.0 in
    ap₂ (◌&&◌) (number-fits w (bit_and v m) (omega (arith, low, under))) (masked-fits ws vs ms fs.1 gs.1)

bits-narrow : (b : Bits) (w : ℕ) → b.width ≡ w → w ≤ 64 → nat_lt b.value (2 ^ 64) ≡ true
bits-narrow b w e l = narrow-number w b.value l (subst (λ u. b.value < 2 ^ u) e b.fits)

row-fits : (ws : List ℕ) (r : ℕ) (row : FunRow) → AllNarrow ws → r ≤ 64 → FitsRow ws r row → row_numbers_fit (key_row row) ≡ true
row-fits ws r row n l f =
    and-four (length (masked row.values row.masks) == length row.masks) (each (λ n. nat_lt n (2 ^ 64)) (masked row.values row.masks)) (each (λ n. nat_lt n (2 ^ 64)) row.masks) (nat_lt row.result.value (2 ^ 64))
    (same-number (length (masked row.values row.masks)) (length row.masks) (masked-length row.values row.masks (row-lengths ws r row f)))
    (narrow-numbers ws (masked row.values row.masks) n (masked-fits ws row.values row.masks f.values_fit f.masks_fit)) (narrow-numbers ws row.masks n f.masks_fit)
    (bits-narrow row.result r f.result_is l)

rows-fit : (ws : List ℕ) (r : ℕ) (rows : List FunRow) → AllNarrow ws → r ≤ 64 → All (FitsRow ws r) rows → each row_numbers_fit (map key_row rows) ≡ true
rows-fit ws r [] n l f = refl
rows-fit ws r (row ∷ rows) n l f = ap₂ (◌&&◌) (row-fits ws r row n l (All-head (FitsRow ws r) row rows f)) (rows-fit ws r rows n l (All-tail (FitsRow ws r) row rows f))

function-fits : (d : Design) (places : Places) (widths : List ℕ) (w : WellFormed d) (t : P4Table) (f : List ℕ) (ps : List Param) → FitsDesign d places → HoldsFunction d widths t f ps → t.number < 2 ^ 32
    → table_numbers_fit (function_rows t.number (table_named d places f)) ≡ true
function-fits d places widths w t f ps z held l =
    let g = held.function in
    let table : Tabled d places f g = tabled d places f g z held.named in
    let narrow = narrow-function d w table.number g table.there in
    ap (λ o. table_numbers_fit (function_rows t.number o)) table.named
    ∙ and-three (nat_lt t.number (2 ^ 32)) (nat_lt table.table.default.value (2 ^ 64)) (each row_numbers_fit (map key_row table.table.rows))
    (number-fits 32 t.number l) (bits-narrow table.table.default (result_width g.result) table.fits.default_is narrow.result)
    (rows-fit table.table.widths (result_width g.result) table.table.rows (subst AllNarrow (sym table.fits.widths_are) narrow.params) narrow.result table.fits.rows_fit)

-- ---- rows of forks

narrow-before-last-from : (p : Param) (ps : List Param) → AllNarrow (widths_of (p ∷ ps)) → AllNarrow (widths_of (before_last_from p ps))
narrow-before-last-from p [] n = tt
narrow-before-last-from p (q ∷ ps) n = (n.0, narrow-before-last-from q ps n.1)

narrow-before-last : (ps : List Param) → AllNarrow (widths_of ps) → AllNarrow (widths_of (params_before_last ps))
narrow-before-last [] n = tt
narrow-before-last (p ∷ ps) n = narrow-before-last-from p ps n

ones-fit : (ws : List ℕ) → all_fit_widths ws (all_ones ws) ≡ true
ones-fit [] = refl
ones-fit (w ∷ ws) = let some = pow_pos w in ap₂ (◌&&◌) (number-fits w (2 ^ w - 1) (omega (arith, some))) (ones-fit ws)

group-row-fits : (ws args : List ℕ) (k : ℕ) → AllNarrow ws → all_fit_widths ws args ≡ true → k < 2 ^ 16 → row_numbers_fit (record { values = args; masks = all_ones ws; result = k }) ≡ true
group-row-fits ws args k n f l =
    and-four (length args == length (all_ones ws)) (each (λ n. nat_lt n (2 ^ 64)) args) (each (λ n. nat_lt n (2 ^ 64)) (all_ones ws)) (nat_lt k (2 ^ 64))
    (same-number (length args) (length (all_ones ws)) (fit-length ws args f ∙ sym (fit-length ws (all_ones ws) (ones-fit ws))))
    (narrow-numbers ws args n f) (narrow-numbers ws (all_ones ws) n (ones-fit ws)) (narrow-number 16 k (omega arith) l)

one-group : (row : KeyRow) (rows : List KeyRow) (b : Bool) → (b ≡ true → row_numbers_fit row ≡ true) → each row_numbers_fit rows ≡ true → each row_numbers_fit ((if b then row ∷ [] else []) ++ rows) ≡ true
one-group row rows true h k = ap₂ (◌&&◌) (h refl) k
one-group row rows false h k = k

groups-rows-fit : (ws f : List ℕ) (k : ℕ) (gs : List ForkGroup) → AllNarrow ws → GroupsFit ws f gs → k + length gs ≤ 2 ^ 16 → each row_numbers_fit (rows_from (all_ones ws) k gs f) ≡ true
groups-rows-fit ws f k [] n z l = refl
groups-rows-fit ws f k (g ∷ gs) n z l =
    one-group (record { values = g.grouped.args; masks = all_ones ws; result = k }) (rows_from (all_ones ws) (suc k) gs f) (same_name f g.function)
    (λ s. group-row-fits ws g.grouped.args k n (z.0 s) (omega (arith, l))) (groups-rows-fit ws f (suc k) gs n z.1 (omega (arith, l)))

group-fits : (d : Design) (places : Places) (widths : List ℕ) (w : WellFormed d) (t : P4Table) (f : List ℕ) (ps : List Param) → FitsDesign d places → length (fork_groups d places) < 2 ^ 16 → HoldsGroups d widths t f ps
    → t.number < 2 ^ 32 → table_numbers_fit (record { number = t.number; otherwise = 0; rows = rows_from (all_ones (widths_of ps)) 1 (fork_groups d places) f }) ≡ true
group-fits d places widths w t f ps z few held l =
    let g = held.function in
    let table : Tabled d places f g = tabled d places f g z held.named in
    let narrow = narrow-function d w table.number g table.there in
    and-three (nat_lt t.number (2 ^ 32)) true (each row_numbers_fit (rows_from (all_ones (widths_of ps)) 1 (fork_groups d places) f)) (number-fits 32 t.number l) refl
    (groups-rows-fit (widths_of ps) f 1 (fork_groups d places) (subst (λ qs. AllNarrow (widths_of qs)) (sym held.params) (narrow-before-last g.params narrow.params))
    (subst (λ qs. GroupsFit (widths_of qs) f (fork_groups d places)) (sym held.params) (groups-fit d places f g w z held.named)) (omega (arith, few)))

-- ---- all rows

more-tables : (a b : ℕ) (ms : List Made) (i j : ℕ) → Placed i a ms j b → a ≤ b
more-tables a b [] i j p = let e = p.1 in omega (arith, e)
more-tables a b (a_field x k w ∷ ms) i j p = more-tables a b ms (suc i) j p.1
more-tables a b (a_table t f ps ∷ ms) i j p = let l = more-tables (suc a) b ms i j p.1 in omega (arith, l)
more-tables a b (a_group t f ps ∷ ms) i j p = let l = more-tables (suc a) b ms i j p.1 in omega (arith, l)

table-below : (a b : ℕ) (ms : List Made) (i j n : ℕ) → n ≡ a → Placed i (suc a) ms j b → b < 2 ^ 32 → n < 2 ^ 32
table-below a b ms i j n e p l = let k = more-tables (suc a) b ms i j p in omega (arith, e, k, l)

all-fit-numbers : (d : Design) (places : Places) (widths : List ℕ) → WellFormed d → FitsDesign d places → length (fork_groups d places) < 2 ^ 16
    → (ms : List Made) (i a j b : ℕ) → Placed i a ms j b → b < 2 ^ 32 → AllOf d widths ms → each table_numbers_fit (flat_map (made_rows d places) ms) ≡ true
all-fit-numbers d places widths w z few [] i a j b p l h = refl
all-fit-numbers d places widths w z few (a_field x k u ∷ ms) i a j b p l h = all-fit-numbers d places widths w z few ms (suc i) a j b p.1 l h.1
all-fit-numbers d places widths w z few (a_table t f ps ∷ ms) i a j b p l h =
    ap₂ (◌&&◌) (function-fits d places widths w t f ps z h.0 (table-below a b ms i j t.number p.0 p.1 l)) (all-fit-numbers d places widths w z few ms i (suc a) j b p.1 l h.1)
all-fit-numbers d places widths w z few (a_group t f ps ∷ ms) i a j b p l h =
    ap₂ (◌&&◌) (group-fits d places widths w t f ps z few h.0 (table-below a b ms i j t.number p.0 p.1 l)) (all-fit-numbers d places widths w z few ms i (suc a) j b p.1 l h.1)

groups-numbers-fit : (k : ℕ) (gs : List ForkGroup) → GroupsRight gs → k + length gs ≤ 2 ^ 16 → each group_numbers_fit (groups_from k gs) ≡ true
groups-numbers-fit k [] h l = refl
groups-numbers-fit k (g ∷ gs) h l = ap₂ (◌&&◌) (ap₂ (◌&&◌) (number-fits 16 k (omega (arith, l))) h.1) (groups-numbers-fit (suc k) gs h.2 (omega (arith, l)))

pub file-fits : (d : Design) (places : Places) (made : List Made) → WellFormed d → FitsDesign d places → IsLogOf d made → length (fork_groups d places) < 2 ^ 16 → length (tables_in made) < 2 ^ 32
    → rows_file_fits (switch_rows d places made) ≡ true
file-fits d places made w z log few short =
    let count = below-end table-number 0 log.past_tables (tables_in made) (tables-run 1 0 log.past_fields log.past_tables made log.placed) in
    ap₂ (◌&&◌) (all-fit-numbers d places _ w z few made 1 0 log.past_fields log.past_tables log.placed (omega (arith, count, short)) log.tables)
    (groups-numbers-fit 1 (fork_groups d places) (groups-are-right d places w z) (omega (arith, few)))
