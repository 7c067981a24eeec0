-- There is no fault exactly where rows load.
use Rattle.std.proofs.Common.{◌≡◌, ℕ, suc, ◌^◌, ◌==◌, ◌&&◌, ◌||◌, ◌++◌, not, nat_lt, Bool, true, false, if◌then◌else◌, List, [], ◌∷◌, length, Option, Some, None, option_map, refl, sym, ◌∙◌, ap}
use Rattle.std.proofs.lemmas.Bool.{and_from, and_parts}
use Rattle.cocoon_num.specs.Lists.{each, has_number, no_repeats}
use Rattle.p4_ir.specs.Loading.{all_tables, group_fits, row_fits, rows_load, table_numbers, table_rows_fit}
use Rattle.p4_ir.specs.P4Kinds.{numbers_of}
use Rattle.p4_ir.specs.P4Tree.{Group, KeyRow, meta_width, P4Table, Program, RowsFile, TableRows}
use Rattle.p4_ir.specs.Switch.{table_numbered}
use Rattle.p4_run.specs.Faults.{first_group_shape, first_missing, first_row_shape, first_unfit, first_unknown, group_shape, load_fault, missing_table, or_else, row_shape, unfit_default, unfit_row, unknown_table}
use Rattle.p4_run.proofs.GroupSteps.{group_numbers}
use Rattle.p4_run.proofs.TableFacts.{found_has}
use Rattle.p4_run.proofs.TestSteps.{has_one_more, is_symmetric}

-- ---- of the first that is there

else_parts : {A : Type 0} (x y : Option A) → or_else x y ≡ None → (x ≡ None) × (y ≡ None)
else_parts None y h = (refl, h)
else_parts (Some a) y h = absurd (cc)

else_none : {A : Type 0} (x y : Option A) → x ≡ None → y ≡ None → or_else x y ≡ None
else_none None y e h = h
else_none (Some a) y e h = absurd (cc)

mapped_none : {A B : Type 0} (f : A → B) (o : Option A) → option_map f o ≡ None → o ≡ None
mapped_none f None h = refl
mapped_none f (Some a) h = absurd (cc)

none_mapped : {A B : Type 0} (f : A → B) (o : Option A) → o ≡ None → option_map f o ≡ None
none_mapped f None h = refl
none_mapped f (Some a) h = absurd (cc)

-- a test passes where what follows is none
passed : {A : Type 0} (b : Bool) (x : Option A) (y : A) → (if b then x else Some y) ≡ None → (b ≡ true) × (x ≡ None)
passed true x y h = (refl, h)
passed false x y h = absurd (cc)

passes : {A : Type 0} (b : Bool) (x : Option A) (y : A) → b ≡ true → x ≡ None → (if b then x else Some y) ≡ None
passes true x y h e = e
passes false x y h e = absurd (cc)

-- ---- numbers that stand once

apart : (a e b c : Bool) → (not (a || e) && (b && not c)) ≡ ((not a && b) && not (e || c))
apart true e b c = refl
apart false true true c = refl
apart false true false c = refl
apart false false b c = refl

one_before : (before ns : List ℕ) (n : ℕ) → each (λ m. not (has_number m (before ++ n ∷ []))) ns ≡ (each (λ m. not (has_number m before)) ns && not (has_number n ns))
one_before before [] n = refl
one_before before (m ∷ ms) n =
    (λ i. not (has_one_more before n m i) && one_before before ms n i)
    ∙ ap (λ t. not (has_number m before || t) && (each (λ k. not (has_number k before)) ms && not (has_number n ms))) (is_symmetric m n)
    ∙ apart (has_number m before) (n == m) (each (λ k. not (has_number k before)) ms) (has_number n ms)

-- they are apart from those before, and from each other
abbrev once_after : List ℕ → List ℕ → Bool
once_after before [] = true
once_after before (n ∷ ns) = not (has_number n before) && once_after (before ++ n ∷ []) ns

regroup : (x b c d : Bool) → (x && ((b && not c) && d)) ≡ ((x && b) && (not c && d))
regroup true true c d = refl
regroup true false c d = refl
regroup false b c d = refl

once_is : (before ns : List ℕ) → once_after before ns ≡ (each (λ n. not (has_number n before)) ns && no_repeats ns)
once_is before [] = refl
once_is before (n ∷ ns) =
    ap (λ t. not (has_number n before) && t) (once_is (before ++ n ∷ []) ns)
    ∙ ap (λ t. not (has_number n before) && (t && no_repeats ns)) (one_before before ns n)
    ∙ regroup (not (has_number n before)) (each (λ m. not (has_number m before)) ns) (has_number n ns) (no_repeats ns)

none_before : (ns : List ℕ) → each (λ n. not (has_number n [])) ns ≡ true
none_before [] = refl
none_before (n ∷ ns) = none_before ns

once_alone : (ns : List ℕ) → once_after [] ns ≡ no_repeats ns
once_alone ns = once_is [] ns ∙ ap (λ t. t && no_repeats ns) (none_before ns)

-- ---- tables

unknown_gives : (numbers before : List ℕ) (ts : List TableRows) → first_unknown numbers before ts ≡ None
    → (once_after before (table_numbers ts) ≡ true) × (each (λ (t : TableRows). has_number t.number numbers) ts ≡ true)
unknown_gives numbers before [] h = (refl, refl)
unknown_gives numbers before (t ∷ ts) h =
    let step = passed (has_number t.number numbers && not (has_number t.number before)) (first_unknown numbers (before ++ t.number ∷ []) ts) t.number h in
    let own = and_parts (has_number t.number numbers) (not (has_number t.number before)) step.0 in
    let rest = unknown_gives numbers (before ++ t.number ∷ []) ts step.1 in (
      and_from (not (has_number t.number before)) (once_after (before ++ t.number ∷ []) (table_numbers ts)) own.1 rest.0,
      and_from (has_number t.number numbers) (each (λ (u : TableRows). has_number u.number numbers) ts) own.0 rest.1,
    )

unknown_from : (numbers before : List ℕ) (ts : List TableRows) → once_after before (table_numbers ts) ≡ true → each (λ (t : TableRows). has_number t.number numbers) ts ≡ true
    → first_unknown numbers before ts ≡ None
unknown_from numbers before [] h k = refl
unknown_from numbers before (t ∷ ts) h k =
    let a = and_parts (not (has_number t.number before)) (once_after (before ++ t.number ∷ []) (table_numbers ts)) h in
    let b = and_parts (has_number t.number numbers) (each (λ (u : TableRows). has_number u.number numbers) ts) k in
    passes (has_number t.number numbers && not (has_number t.number before)) (first_unknown numbers (before ++ t.number ∷ []) ts) t.number
    (and_from (has_number t.number numbers) (not (has_number t.number before)) b.0 a.0)
    (unknown_from numbers (before ++ t.number ∷ []) ts a.1 b.1)

missing_gives : (given : List ℕ) (ts : List P4Table) → first_missing given ts ≡ None → each (λ (t : P4Table). has_number t.number given) ts ≡ true
missing_gives given [] h = refl
missing_gives given (t ∷ ts) h =
    let step = passed (has_number t.number given) (first_missing given ts) t.number h in
    and_from (has_number t.number given) (each (λ (u : P4Table). has_number u.number given) ts) step.0 (missing_gives given ts step.1)

missing_from : (given : List ℕ) (ts : List P4Table) → each (λ (t : P4Table). has_number t.number given) ts ≡ true → first_missing given ts ≡ None
missing_from given [] h = refl
missing_from given (t ∷ ts) h =
    let a = and_parts (has_number t.number given) (each (λ (u : P4Table). has_number u.number given) ts) h in
    passes (has_number t.number given) (first_missing given ts) t.number a.0 (missing_from given ts a.1)

-- ---- rows

unfit_gives : (p : Program) (t : P4Table) (i : ℕ) (rows : List KeyRow) → first_unfit p t i rows ≡ None → each (row_fits p t) rows ≡ true
unfit_gives p t i [] h = refl
unfit_gives p t i (r ∷ rows) h =
    let step = passed (row_fits p t r) (first_unfit p t (suc i) rows) i h in
    and_from (row_fits p t r) (each (row_fits p t) rows) step.0 (unfit_gives p t (suc i) rows step.1)

unfit_from : (p : Program) (t : P4Table) (i : ℕ) (rows : List KeyRow) → each (row_fits p t) rows ≡ true → first_unfit p t i rows ≡ None
unfit_from p t i [] h = refl
unfit_from p t i (r ∷ rows) h =
    let a = and_parts (row_fits p t r) (each (row_fits p t) rows) h in
    passes (row_fits p t r) (first_unfit p t (suc i) rows) i a.0 (unfit_from p t (suc i) rows a.1)

default_gives : (p : Program) (t : P4Table) (r : TableRows) (b : Bool) → ◌≡◌ {A = Option ℕ} (if b then None else Some (length r.rows)) None → b ≡ true
default_gives p t r true h = refl
default_gives p t r false h = absurd (cc)

default_from : (n : ℕ) (b : Bool) → b ≡ true → ◌≡◌ {A = Option ℕ} (if b then None else Some n) None
default_from n true h = refl
default_from n false h = absurd (cc)

-- a number that tables have finds one
rest_of : (a b : Bool) → a ≡ false → (a || b) ≡ true → b ≡ true
rest_of true b e h = absurd (cc)
rest_of false b e h = h

found_step : (t : P4Table) (n : ℕ) (b : Bool) (found : Option P4Table) (rest : Bool) → (t.number == n) ≡ b → (rest ≡ true → found ≡ None → ⊥) → ((n == t.number) || rest) ≡ true
    → ◌≡◌ {A = Option P4Table} (if b then Some t else found) None → ⊥
found_step t n true found rest p ih h e = cc
found_step t n false found rest p ih h e = ih (rest_of (n == t.number) rest (is_symmetric n t.number ∙ p) h) e

found : (ts : List P4Table) (n : ℕ) → has_number n (numbers_of ts) ≡ true → table_numbered ts n ≡ None → ⊥
found [] n h e = cc
found (t ∷ ts) n h e = found_step t n (t.number == n) (table_numbered ts n) (has_number n (numbers_of ts)) refl (found ts n) h e

row_gives : (p : Program) (o : Option P4Table) (r : TableRows) → (o ≡ None → ⊥) → unfit_row p o r ≡ None → table_rows_fit p o r ≡ true
row_gives p None r n h = absurd (n refl)
row_gives p (Some t) r n h =
    let parts = else_parts (first_unfit p t 0 r.rows) (unfit_default p t r) h in
    and_from (each (row_fits p t) r.rows) (nat_lt r.otherwise (2 ^ meta_width p t.result)) (unfit_gives p t 0 r.rows parts.0)
    (default_gives p t r (nat_lt r.otherwise (2 ^ meta_width p t.result)) parts.1)

row_from : (p : Program) (o : Option P4Table) (r : TableRows) → table_rows_fit p o r ≡ true → unfit_row p o r ≡ None
row_from p None r h = refl
row_from p (Some t) r h =
    let a = and_parts (each (row_fits p t) r.rows) (nat_lt r.otherwise (2 ^ meta_width p t.result)) h in
    else_none (first_unfit p t 0 r.rows) (unfit_default p t r) (unfit_from p t 0 r.rows a.0)
    (default_from (length r.rows) (nat_lt r.otherwise (2 ^ meta_width p t.result)) a.1)

abbrev fits_own : Program → TableRows → Bool
fits_own p t = table_rows_fit p (table_numbered (all_tables p) t.number) t

rows_give : (p : Program) (ts : List TableRows) → each (λ (t : TableRows). has_number t.number (numbers_of (all_tables p))) ts ≡ true → first_row_shape p ts ≡ None → each (fits_own p) ts ≡ true
rows_give p [] k h = refl
rows_give p (t ∷ ts) k h =
    let own = unfit_row p (table_numbered (all_tables p) t.number) t in
    let parts = else_parts (option_map (row_shape t.number) own) (first_row_shape p ts) h in
    let both = and_parts (has_number t.number (numbers_of (all_tables p))) (each (λ (u : TableRows). has_number u.number (numbers_of (all_tables p))) ts) k in
    and_from (fits_own p t) (each (fits_own p) ts)
    (row_gives p (table_numbered (all_tables p) t.number) t (found (all_tables p) t.number both.0) (mapped_none (row_shape t.number) own parts.0))
    (rows_give p ts both.1 parts.1)

rows_from : (p : Program) (ts : List TableRows) → each (fits_own p) ts ≡ true → first_row_shape p ts ≡ None
rows_from p [] h = refl
rows_from p (t ∷ ts) h =
    let own = unfit_row p (table_numbered (all_tables p) t.number) t in
    let both = and_parts (fits_own p t) (each (fits_own p) ts) h in
    else_none (option_map (row_shape t.number) own) (first_row_shape p ts)
    (none_mapped (row_shape t.number) own (row_from p (table_numbered (all_tables p) t.number) t both.0))
    (rows_from p ts both.1)

-- rows that fit are of a table that is there
known_one : (ts : List P4Table) (n : ℕ) (p : Program) (r : TableRows) (o : Option P4Table) → table_numbered ts n ≡ o → table_rows_fit p o r ≡ true → has_number n (numbers_of ts) ≡ true
known_one ts n p r None e h = absurd (cc)
known_one ts n p r (Some t) e h = found_has (λ (u : P4Table). u.number) ts n t e

known_all : (p : Program) (ts : List TableRows) → each (fits_own p) ts ≡ true → each (λ (t : TableRows). has_number t.number (numbers_of (all_tables p))) ts ≡ true
known_all p [] h = refl
known_all p (t ∷ ts) h =
    let both = and_parts (fits_own p t) (each (fits_own p) ts) h in
    and_from (has_number t.number (numbers_of (all_tables p))) (each (λ (u : TableRows). has_number u.number (numbers_of (all_tables p))) ts)
    (known_one (all_tables p) t.number p t (table_numbered (all_tables p) t.number) refl both.0) (known_all p ts both.1)

-- ---- groups

groups_give : (before : List ℕ) (i : ℕ) (gs : List Group) → first_group_shape before i gs ≡ None → (once_after before (group_numbers gs) ≡ true) × (each group_fits gs ≡ true)
groups_give before i [] h = (refl, refl)
groups_give before i (g ∷ gs) h =
    let step = passed (not (has_number g.number before) && group_fits g) (first_group_shape (before ++ g.number ∷ []) (suc i) gs) i h in
    let own = and_parts (not (has_number g.number before)) (group_fits g) step.0 in
    let rest = groups_give (before ++ g.number ∷ []) (suc i) gs step.1 in (
      and_from (not (has_number g.number before)) (once_after (before ++ g.number ∷ []) (group_numbers gs)) own.0 rest.0,
      and_from (group_fits g) (each group_fits gs) own.1 rest.1,
    )

groups_from : (before : List ℕ) (i : ℕ) (gs : List Group) → once_after before (group_numbers gs) ≡ true → each group_fits gs ≡ true → first_group_shape before i gs ≡ None
groups_from before i [] h k = refl
groups_from before i (g ∷ gs) h k =
    let a = and_parts (not (has_number g.number before)) (once_after (before ++ g.number ∷ []) (group_numbers gs)) h in
    let b = and_parts (group_fits g) (each group_fits gs) k in
    passes (not (has_number g.number before) && group_fits g) (first_group_shape (before ++ g.number ∷ []) (suc i) gs) i
    (and_from (not (has_number g.number before)) (group_fits g) a.0 b.0)
    (groups_from (before ++ g.number ∷ []) (suc i) gs a.1 b.1)

-- ---- all

pub loads_from_none : (p : Program) (r : RowsFile) → load_fault p r ≡ None → rows_load p r ≡ true
loads_from_none p r h =
    let numbers = numbers_of (all_tables p) in
    let unknown = option_map unknown_table (first_unknown numbers [] r.tables) in
    let missing = option_map missing_table (first_missing (table_numbers r.tables) (all_tables p)) in
    let shape = first_row_shape p r.tables in
    let group = option_map group_shape (first_group_shape [] 0 r.groups) in
    let a = else_parts unknown (or_else missing (or_else shape group)) h in
    let b = else_parts missing (or_else shape group) a.1 in
    let c = else_parts shape group b.1 in
    let tables = unknown_gives numbers [] r.tables (mapped_none unknown_table (first_unknown numbers [] r.tables) a.0) in
    let groups = groups_give [] 0 r.groups (mapped_none group_shape (first_group_shape [] 0 r.groups) c.1) in
    let given = each (λ (t : P4Table). has_number t.number (table_numbers r.tables)) (all_tables p) in
    let once : no_repeats (table_numbers r.tables) ≡ true = sym (once_alone (table_numbers r.tables)) ∙ tables.0 in
    let distinct : no_repeats (group_numbers r.groups) ≡ true = sym (once_alone (group_numbers r.groups)) ∙ groups.0 in
    let all_given : given ≡ true = missing_gives (table_numbers r.tables) (all_tables p) (mapped_none missing_table (first_missing (table_numbers r.tables) (all_tables p)) b.0) in
    let fit : each (fits_own p) r.tables ≡ true = rows_give p r.tables tables.1 c.0 in
    and_from (no_repeats (table_numbers r.tables) && given && each (fits_own p) r.tables && no_repeats (group_numbers r.groups)) (each group_fits r.groups)
    (and_from (no_repeats (table_numbers r.tables) && given && each (fits_own p) r.tables) (no_repeats (group_numbers r.groups))
    (and_from (no_repeats (table_numbers r.tables) && given) (each (fits_own p) r.tables)
    (and_from (no_repeats (table_numbers r.tables)) given once all_given) fit) distinct) groups.1

pub none_from_loads : (p : Program) (r : RowsFile) → rows_load p r ≡ true → load_fault p r ≡ None
none_from_loads p r h =
    let numbers = numbers_of (all_tables p) in
    let given = each (λ (t : P4Table). has_number t.number (table_numbers r.tables)) (all_tables p) in
    let once = no_repeats (table_numbers r.tables) in
    let fit = each (fits_own p) r.tables in
    let distinct = no_repeats (group_numbers r.groups) in
    let a = and_parts (once && given && fit && distinct) (each group_fits r.groups) h in
    let b = and_parts (once && given && fit) distinct a.0 in
    let c = and_parts (once && given) fit b.0 in
    let d = and_parts once given c.0 in
    let unknown : first_unknown numbers [] r.tables ≡ None = unknown_from numbers [] r.tables (once_alone (table_numbers r.tables) ∙ d.0) (known_all p r.tables c.1) in
    let missing : first_missing (table_numbers r.tables) (all_tables p) ≡ None = missing_from (table_numbers r.tables) (all_tables p) d.1 in
    let group : first_group_shape [] 0 r.groups ≡ None = groups_from [] 0 r.groups (once_alone (group_numbers r.groups) ∙ b.1) a.1 in
    else_none (option_map unknown_table (first_unknown numbers [] r.tables)) (or_else (option_map missing_table (first_missing (table_numbers r.tables) (all_tables p))) (or_else (first_row_shape p r.tables) (option_map group_shape (first_group_shape [] 0 r.groups))))
    (none_mapped unknown_table (first_unknown numbers [] r.tables) unknown)
    (else_none (option_map missing_table (first_missing (table_numbers r.tables) (all_tables p))) (or_else (first_row_shape p r.tables) (option_map group_shape (first_group_shape [] 0 r.groups)))
    (none_mapped missing_table (first_missing (table_numbers r.tables) (all_tables p)) missing)
    (else_none (first_row_shape p r.tables) (option_map group_shape (first_group_shape [] 0 r.groups)) (rows_from p r.tables c.1) (none_mapped group_shape (first_group_shape [] 0 r.groups) group)))
