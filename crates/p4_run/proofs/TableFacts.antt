-- Of a program that is well kinded and of rows that load: tables with their rows.
use Rattle.std.proofs.Common.{All, ◌≡◌, ℕ, zero, suc, ◌<◌, ◌^◌, ◌-◌, ◌==◌, ◌&&◌, ◌||◌, ◌++◌, not, nat_lt, Bool, true, false, if◌then◌else◌, List, [], ◌∷◌, length, map, get_or, slice_get, Option, Some, None, refl, sym, ◌∙◌, ap, subst, inl, inr, arith}
use Rattle.std.specs.List.{find}
use Rattle.std.proofs.lemmas.Bool.{and_parts, eqb-true, eq-eqb, ltb-true, or_cases, or_left, or_right}
use Rattle.cocoon_num.specs.Lists.{ascend, each, has_number, no_repeats}
use Rattle.cocoon_num.specs.Rows.{values_match}
use Rattle.row_search.specs.Keyed.{HasKeys}
use Rattle.numbering.specs.NumberPlaces.{place_of}
use Rattle.p4_ir.specs.Loading.{all_tables, group_fits, keys_fit, key_fits, row_fits, rows_load, table_numbers, table_rows_fit}
use Rattle.p4_ir.specs.NetOf.{key_row_of}
use Rattle.p4_ir.specs.P4Kinds.{block_fits, kinds_fit, names_fit, numbers_of, tables_fit, table_fits, widths_fit}
use Rattle.p4_ir.specs.P4Tree.{Group, KeyRow, meta_width, P4Table, Program, RowsFile, TableRows}
use Rattle.p4_ir.specs.Switch.{rows_numbered, table_numbered, table_result}
use Rattle.p4_ir.specs.declared.rows.KeyRow.{KeyRow as CodeRow}
use Rattle.p4_run.specs.Controls.{control_in, within_in}
use Rattle.p4_run.proofs.TestSteps.{is_symmetric}

some_is : {A : Type 0} (x y : A) → ◌≡◌ {A = Option A} (Some x) (Some y) → x ≡ y
some_is x y h = cc

-- ---- what is found

place_step : {A : Type 0} (x : A) (xs : List A) (b : Bool) (found : Option A) (k : ℕ) → found ≡ slice_get xs k
    → (if b then Some x else found) ≡ slice_get (x ∷ xs) (if b then 0 else suc k)
place_step x xs true found k e = refl
place_step x xs false found k e = e

-- the first of a number is at the number's place
pub found_at : {A : Type 0} (f : A → ℕ) (xs : List A) (n : ℕ) → find (λ x. f x == n) xs ≡ slice_get xs (place_of (map f xs) n)
found_at f [] n = refl
found_at f (x ∷ xs) n = place_step x xs (f x == n) (find (λ y. f y == n) xs) (place_of (map f xs) n) (found_at f xs n)

each_step : {A : Type 0} (test : A → Bool) (x y : A) (b : Bool) (found : Option A) → test y ≡ true → (found ≡ Some x → test x ≡ true)
    → (if b then Some y else found) ≡ Some x → test x ≡ true
each_step test x y true found h ih e = subst (λ z. test z ≡ true) (some_is y x e) h
each_step test x y false found h ih e = ih e

pub each_found : {A : Type 0} (test f : A → Bool) (xs : List A) (x : A) → each test xs ≡ true → find f xs ≡ Some x → test x ≡ true
each_found test f [] x h e = absurd (cc)
each_found test f (y ∷ ys) x h e =
    let both = and_parts (test y) (each test ys) h in
    each_step test x y (f y) (find f ys) both.0 (each_found test f ys x both.1) e

passes_step : {A : Type 0} (f : A → Bool) (x y : A) (b : Bool) (found : Option A) → f y ≡ b → (found ≡ Some x → f x ≡ true)
    → (if b then Some y else found) ≡ Some x → f x ≡ true
passes_step f x y true found p ih e = subst (λ z. f z ≡ true) (some_is y x e) p
passes_step f x y false found p ih e = ih e

pub found_passes : {A : Type 0} (f : A → Bool) (xs : List A) (x : A) → find f xs ≡ Some x → f x ≡ true
found_passes f [] x e = absurd (cc)
found_passes f (y ∷ ys) x e = passes_step f x y (f y) (find f ys) refl (found_passes f ys x) e

prefix_step : {A : Type 0} (x y : A) (b : Bool) (found more : Option A) → (found ≡ Some x → more ≡ Some x)
    → (if b then Some y else found) ≡ Some x → (if b then Some y else more) ≡ Some x
prefix_step x y true found more ih e = e
prefix_step x y false found more ih e = ih e

found_in_prefix : {A : Type 0} (f : A → Bool) (xs ys : List A) (x : A) → find f xs ≡ Some x → find f (xs ++ ys) ≡ Some x
found_in_prefix f [] ys x e = absurd (cc)
found_in_prefix f (y ∷ xs) ys x e = prefix_step x y (f y) (find f xs) (find f (xs ++ ys)) (found_in_prefix f xs ys x) e

-- ---- numbers that ascend

below_step : (m k n : ℕ) (ks : List ℕ) → (ascend (k ∷ ks) ≡ true → has_number n ks ≡ true → k < n) → (nat_lt m k && ascend (k ∷ ks)) ≡ true
    → ((n == k) || has_number n ks) ≡ true → m < n
below_step m k n ks ih h e =
    let both = and_parts (nat_lt m k) (ascend (k ∷ ks)) h in
    let first : m < k = ltb-true m k both.0 in
    elim (or_cases (n == k) (has_number n ks) e) [
      | inl p ↦ let same : n ≡ k = eqb-true n k p in omega arith
      | inr q ↦ let later : k < n = ih both.1 q in omega arith
    ]

ascend_below : (m : ℕ) (ns : List ℕ) (n : ℕ) → ascend (m ∷ ns) ≡ true → has_number n ns ≡ true → m < n
ascend_below m [] n h e = absurd (cc)
ascend_below m (k ∷ ks) n h e = below_step m k n ks (ascend_below k ks n) h e

ascend_rest : (m : ℕ) (ns : List ℕ) → ascend (m ∷ ns) ≡ true → ascend ns ≡ true
ascend_rest m [] h = refl
ascend_rest m (k ∷ ks) h = (and_parts (nat_lt m k) (ascend (k ∷ ks)) h).1

has_behind : (ms ns : List ℕ) (n : ℕ) → has_number n ns ≡ true → has_number n (ms ++ ns) ≡ true
has_behind [] ns n h = h
has_behind (m ∷ ms) ns n h = or_right (n == m) (has_number n (ms ++ ns)) (has_behind ms ns n h)

same_back : (m n : ℕ) → (m == n) ≡ true → (n == m) ≡ true
same_back m n h = eq-eqb n m (sym (eqb-true m n h))

has_step : {A : Type 0} (x y : A) (m n : ℕ) (b : Bool) (found : Option A) (rest : Bool) → (m == n) ≡ b → (found ≡ Some x → rest ≡ true)
    → (if b then Some y else found) ≡ Some x → ((n == m) || rest) ≡ true
has_step x y m n true found rest p ih e = or_left (n == m) rest (same_back m n p)
has_step x y m n false found rest p ih e = or_right (n == m) rest (ih e)

pub found_has : {A : Type 0} (f : A → ℕ) (xs : List A) (n : ℕ) (x : A) → find (λ y. f y == n) xs ≡ Some x → has_number n (map f xs) ≡ true
found_has f [] n x e = absurd (cc)
found_has f (y ∷ ys) n x e = has_step x y (f y) n (f y == n) (find (λ z. f z == n) ys) (has_number n (map f ys)) refl (found_has f ys n x) e

-- ---- tables of a control among those of both

none_step : (x : P4Table) (m n : ℕ) (b : Bool) (found : Option P4Table) → (m == n) ≡ b → m < n → found ≡ None → ◌≡◌ {A = Option P4Table} (if b then Some x else found) None
none_step x m n true found p l e = let same : m ≡ n = eqb-true m n p in absurd (omega arith)
none_step x m n false found p l e = e

not_in_prefix : (xs ys : List P4Table) (n : ℕ) → ascend (numbers_of xs ++ numbers_of ys) ≡ true → has_number n (numbers_of ys) ≡ true → table_numbered xs n ≡ None
not_in_prefix [] ys n h e = refl
not_in_prefix (x ∷ xs) ys n h e =
    none_step x x.number n (x.number == n) (table_numbered xs n) refl
    (ascend_below x.number (numbers_of xs ++ numbers_of ys) n h (has_behind (numbers_of xs) (numbers_of ys) n e))
    (not_in_prefix xs ys n (ascend_rest x.number (numbers_of xs ++ numbers_of ys) h) e)

found_behind : (f : P4Table → Bool) (xs ys : List P4Table) → find f xs ≡ None → find f (xs ++ ys) ≡ find f ys
found_behind f [] ys e = refl
found_behind f (x ∷ xs) ys e = by_test (f x) (find f xs) (find f (xs ++ ys)) (found_behind f xs ys) e
  where
    by_test : (b : Bool) (found more : Option P4Table) → (found ≡ None → more ≡ find f ys) → (if b then Some x else found) ≡ None → (if b then Some x else more) ≡ find f ys
    by_test true found more ih g = absurd (cc)
    by_test false found more ih g = ih g

-- ---- the parts of the rules

pub record Kinds (p : Program) : Type 0 where
  pub widths : widths_fit p ≡ true
  pub ingress_tables : each (table_fits p) p.ingress.tables ≡ true
  pub egress_tables : each (table_fits p) p.egress.tables ≡ true
  pub ascending : ascend (numbers_of p.ingress.tables ++ numbers_of p.egress.tables) ≡ true
  pub body : (b : Bool) → block_fits (within_in p b) (control_in p b).body ≡ true

pub kinds_of : (p : Program) → kinds_fit p ≡ true → Kinds p
kinds_of p h =
    let own = block_fits (record { program = p; in_ingress = true; tables = numbers_of p.ingress.tables }) p.ingress.body in
    let other = block_fits (record { program = p; in_ingress = false; tables = numbers_of p.egress.tables }) p.egress.body in
    let a = and_parts (names_fit p && widths_fit p && tables_fit p && own) other h in
    let b = and_parts (names_fit p && widths_fit p && tables_fit p) own a.0 in
    let c = and_parts (names_fit p && widths_fit p) (tables_fit p) b.0 in
    let d = and_parts (names_fit p) (widths_fit p) c.0 in
    let e = and_parts (each (table_fits p) p.ingress.tables && each (table_fits p) p.egress.tables) (ascend (numbers_of p.ingress.tables ++ numbers_of p.egress.tables)) c.1 in
    let f = and_parts (each (table_fits p) p.ingress.tables) (each (table_fits p) p.egress.tables) e.0 in
    record {
      widths = d.1;
      ingress_tables = f.0;
      egress_tables = f.1;
      ascending = e.1;
      body = body_of b.1 a.1;
    }
  where
    body_of : block_fits (within_in p true) p.ingress.body ≡ true → block_fits (within_in p false) p.egress.body ≡ true
        → (b : Bool) → block_fits (within_in p b) (control_in p b).body ≡ true
    body_of x y true = x
    body_of x y false = y

-- the rows fit the table, and the table fits the program
pub record TableFits (p : Program) (t : P4Table) (r : TableRows) : Type 0 where
  pub some : 0 < length t.keys
  pub keys : each (λ i. nat_lt i (length p.meta)) t.keys ≡ true
  pub result : t.result < length p.meta
  pub rows : each (row_fits p t) r.rows ≡ true
  pub otherwise : r.otherwise < 2 ^ meta_width p t.result

pub record Loads (p : Program) (r : RowsFile) : Type 0 where
  pub given : each (λ (t : P4Table). has_number t.number (table_numbers r.tables)) (all_tables p) ≡ true
  pub tables : each (λ (t : TableRows). table_rows_fit p (table_numbered (all_tables p) t.number) t) r.tables ≡ true
  pub groups : each group_fits r.groups ≡ true

pub loads_of : (p : Program) (r : RowsFile) → rows_load p r ≡ true → Loads p r
loads_of p r h =
    let once = no_repeats (table_numbers r.tables) in
    let given = each (λ (t : P4Table). has_number t.number (table_numbers r.tables)) (all_tables p) in
    let fit = each (λ (t : TableRows). table_rows_fit p (table_numbered (all_tables p) t.number) t) r.tables in
    let distinct = no_repeats (map (λ (g : Group). g.number) r.groups) in
    let a = and_parts (once && given && fit && distinct) (each group_fits r.groups) h in
    let b = and_parts (once && given && fit) distinct a.0 in
    let c = and_parts (once && given) fit b.0 in
    record { given = (and_parts once given c.0).1; tables = c.1; groups = a.1 }

pub in_both : (p : Program) (b : Bool) (n : ℕ) (t : P4Table) → Kinds p → table_numbered (control_in p b).tables n ≡ Some t → table_numbered (all_tables p) n ≡ Some t
in_both p true n t k e = found_in_prefix (λ (u : P4Table). u.number == n) p.ingress.tables p.egress.tables t e
in_both p false n t k e =
    found_behind (λ (u : P4Table). u.number == n) p.ingress.tables p.egress.tables
    (not_in_prefix p.ingress.tables p.egress.tables n k.ascending (found_has (λ (u : P4Table). u.number) p.egress.tables n t e))
    ∙ e

control_fits : (p : Program) (b : Bool) → Kinds p → each (table_fits p) (control_in p b).tables ≡ true
control_fits p true k = k.ingress_tables
control_fits p false k = k.egress_tables

pub counted : (n : ℕ) → not (n == 0) ≡ true → 0 < n
counted zero h = absurd (cc)
counted (suc n) h = omega arith

-- the keys of a table that fits
pub keys_parts : (p : Program) (t : P4Table) → table_fits p t ≡ true → (not (length t.keys == 0) ≡ true) × (each (λ i. nat_lt i (length p.meta)) t.keys ≡ true)
keys_parts p t h =
    let a = and_parts (not (length t.keys == 0) && each (λ i. nat_lt i (length p.meta)) t.keys && nat_lt t.result (length p.meta)) (nat_lt t.number (2 ^ 32 - 1)) h in
    let b = and_parts (not (length t.keys == 0) && each (λ i. nat_lt i (length p.meta)) t.keys) (nat_lt t.result (length p.meta)) a.0 in
    and_parts (not (length t.keys == 0)) (each (λ i. nat_lt i (length p.meta)) t.keys) b.0

pub table_at : (p : Program) (rows : RowsFile) (b : Bool) (n : ℕ) (t : P4Table) (r : TableRows) → kinds_fit p ≡ true → rows_load p rows ≡ true
    → table_numbered (control_in p b).tables n ≡ Some t → rows_numbered rows.tables n ≡ Some r → TableFits p t r
table_at p rows b n t r h k e f =
    let kinds = kinds_of p h in
    let own : table_fits p t ≡ true = each_found (table_fits p) (λ (u : P4Table). u.number == n) (control_in p b).tables t (control_fits p b kinds) e in
    let is_n : r.number ≡ n = eqb-true r.number n (found_passes (λ (u : TableRows). u.number == n) rows.tables r f) in
    let whole : table_rows_fit p (table_numbered (all_tables p) r.number) r ≡ true =
    each_found (λ (u : TableRows). table_rows_fit p (table_numbered (all_tables p) u.number) u) (λ (u : TableRows). u.number == n) rows.tables r (loads_of p rows k).tables f in
    let same : table_numbered (all_tables p) r.number ≡ Some t = ap (table_numbered (all_tables p)) is_n ∙ in_both p b n t kinds e in
    let fits : table_rows_fit p (Some t) r ≡ true = ap (λ o. table_rows_fit p o r) (sym same) ∙ whole in
    let parts = and_parts (each (row_fits p t) r.rows) (nat_lt r.otherwise (2 ^ meta_width p t.result)) fits in
    let a = and_parts (not (length t.keys == 0) && each (λ i. nat_lt i (length p.meta)) t.keys && nat_lt t.result (length p.meta)) (nat_lt t.number (2 ^ 32 - 1)) own in
    let b = and_parts (not (length t.keys == 0) && each (λ i. nat_lt i (length p.meta)) t.keys) (nat_lt t.result (length p.meta)) a.0 in
    record {
      some = counted (length t.keys) (and_parts (not (length t.keys == 0)) (each (λ i. nat_lt i (length p.meta)) t.keys) b.0).0;
      keys = (and_parts (not (length t.keys == 0)) (each (λ i. nat_lt i (length p.meta)) t.keys) b.0).1;
      result = ltb-true t.result (length p.meta) b.1;
      rows = parts.0;
      otherwise = ltb-true r.otherwise (2 ^ meta_width p t.result) parts.1;
    }

-- ---- rows

pub all_below : (m : ℕ) (ks : List ℕ) → each (λ i. nat_lt i m) ks ≡ true → All (λ i. i < m) ks
all_below m [] h k d l = absurd (omega arith)
all_below m (x ∷ ks) h zero d l = ltb-true x m (and_parts (nat_lt x m) (each (λ i. nat_lt i m) ks) h).0
all_below m (x ∷ ks) h (suc k) d l = all_below m ks (and_parts (nat_lt x m) (each (λ i. nat_lt i m) ks) h).1 k d (omega arith)

keys_counted : (p : Program) (exact : Bool) (is vs ms : List ℕ) → keys_fit p exact is vs ms ≡ true → (length vs ≡ length is) × (length ms ≡ length is)
keys_counted p exact [] [] [] h = (refl, refl)
keys_counted p exact [] [] (m ∷ ms) h = absurd (cc)
keys_counted p exact [] (v ∷ vs) ms h = absurd (cc)
keys_counted p exact (i ∷ is) [] ms h = absurd (cc)
keys_counted p exact (i ∷ is) (v ∷ vs) [] h = absurd (cc)
keys_counted p exact (i ∷ is) (v ∷ vs) (m ∷ ms) h =
    let rest = keys_counted p exact is vs ms (and_parts (key_fits exact (meta_width p i) v m) (keys_fit p exact is vs ms) h).1 in
    (ap suc rest.0, ap suc rest.1)

pub rows_counted : (p : Program) (t : P4Table) (rows : List CodeRow) → each (row_fits p t) (map key_row_of rows) ≡ true → All (HasKeys (length t.keys)) rows
rows_counted p t [] h k d l = absurd (omega arith)
rows_counted p t (r ∷ rows) h zero d l =
    let own = (and_parts (row_fits p t (key_row_of r)) (each (row_fits p t) (map key_row_of rows)) h).0 in
    keys_counted p t.exact t.keys r.values r.masks (and_parts (keys_fit p t.exact t.keys r.values r.masks) (nat_lt r.result (2 ^ meta_width p t.result)) own).0
rows_counted p t (r ∷ rows) h (suc k) d l = rows_counted p t rows (and_parts (row_fits p t (key_row_of r)) (each (row_fits p t) (map key_row_of rows)) h).1 k d (omega arith)

small_step : (m : ℕ) (b : Bool) (x y : ℕ) → x < m → y < m → (if b then x else y) < m
small_step m true x y k l = k
small_step m false x y k l = l

pub result_fits : (p : Program) (t : P4Table) (rows : List KeyRow) (otherwise : ℕ) (xs : List ℕ) → each (row_fits p t) rows ≡ true → otherwise < 2 ^ meta_width p t.result
    → table_result rows otherwise xs < 2 ^ meta_width p t.result
result_fits p t [] otherwise xs h l = l
result_fits p t (r ∷ rows) otherwise xs h l =
    let both = and_parts (row_fits p t r) (each (row_fits p t) rows) h in
    let own = and_parts (keys_fit p t.exact t.keys r.values r.masks) (nat_lt r.result (2 ^ meta_width p t.result)) both.0 in
    small_step (2 ^ meta_width p t.result) (values_match r.values r.masks xs) r.result (table_result rows otherwise xs)
    (ltb-true r.result (2 ^ meta_width p t.result) own.1) (result_fits p t rows otherwise xs both.1 l)

-- a group that is listed
pub each_at : {A B : Type 0} (f : A → B) (test : B → Bool) (xs : List A) (i : ℕ) (x : A) → each test (map f xs) ≡ true → i < length xs → x ≡ get_or xs i x → test (f x) ≡ true
each_at f test [] i x h l e = absurd (omega arith)
each_at f test (y ∷ xs) zero x h l e = subst (λ z. test (f z) ≡ true) (sym e) (and_parts (test (f y)) (each test (map f xs)) h).0
each_at f test (y ∷ xs) (suc i) x h l e = each_at f test xs i x (and_parts (test (f y)) (each test (map f xs)) h).1 (omega arith) e

-- ---- a number that tables, or their rows, have finds one

rest_of : (a b : Bool) → a ≡ false → (a || b) ≡ true → b ≡ true
rest_of true b e h = absurd (cc)
rest_of false b e h = h

is_turned : (m n : ℕ) → (m == n) ≡ false → (n == m) ≡ false
is_turned m n h = is_symmetric n m ∙ h

numbered_step : {A : Type 0} (x : A) (m n : ℕ) (b : Bool) (found : Option A) (rest : Bool) → (m == n) ≡ b → (rest ≡ true → found ≡ None → ⊥) → ((n == m) || rest) ≡ true
    → ◌≡◌ {A = Option A} (if b then Some x else found) None → ⊥
numbered_step x m n true found rest p ih h e = cc
numbered_step x m n false found rest p ih h e = ih (rest_of (n == m) rest (is_turned m n p) h) e

numbered_there : {A : Type 0} (f : A → ℕ) (xs : List A) (n : ℕ) → has_number n (map f xs) ≡ true → find (λ x. f x == n) xs ≡ None → ⊥
numbered_there f [] n h e = cc
numbered_there f (x ∷ xs) n h e = numbered_step x (f x) n (f x == n) (find (λ y. f y == n) xs) (has_number n (map f xs)) refl (numbered_there f xs n) h e

pub table_found : (ts : List P4Table) (n : ℕ) → has_number n (numbers_of ts) ≡ true → table_numbered ts n ≡ None → ⊥
table_found ts n h = numbered_there (λ (t : P4Table). t.number) ts n h

pub rows_found : (rs : List TableRows) (n : ℕ) → has_number n (table_numbers rs) ≡ true → rows_numbered rs n ≡ None → ⊥
rows_found rs n h = numbered_there (λ (r : TableRows). r.number) rs n h
