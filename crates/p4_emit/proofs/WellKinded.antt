-- A well-kinded program has names, numbers and operators that can be spelled.
use Rattle.std.proofs.Common.{◌≡◌, ℕ, zero, suc, ◌+◌, ◌-◌, ◌^◌, ◌%◌, ◌≤◌, ◌<◌, List, [], ◌∷◌, ◌++◌, Bool, true, false, cond, not, ◌&&◌, ◌||◌, Option, Some, None, refl, ap, ap₂, sym, subst, ◌∙◌, arith, length, map, inl, inr}
use Rattle.std.specs.Prelude.{◌==◌, codes, slice_get, nat_le, nat_lt, option_map, option_and_then}
use Rattle.std.proofs.lemmas.Bool.{and_parts, or_cases, eqb-true, ltb-true, leb-true}
use Rattle.cocoon_num.specs.Values.{UnaryOp, flip, not_, BinaryOp, Work, computes, compares, combines, joins, work}
use Rattle.cocoon_num.specs.Names.{same_name}
use Rattle.cocoon_num.specs.Sorts.{Sort, bits_sort, truth_sort, unary_sort, binary_sort, slice_sort, pick_sort, has_sort, work_sort, are_same, same_sort, is_declared_width}
use Rattle.cocoon_num.specs.Values.{with_both, with_all}
use Rattle.cocoon_num.specs.Tokens.{is_run, is_letter, is_run_byte, is_shallow, kept_if}
use Rattle.p4_ir.specs.P4Tree.{P4Expr, p_lit, p_truth, p_meta, p_field, p_port, p_rid, p_unary, p_binary, p_slice, p_pick, P4Stmt, set_meta, set_header, apply_table, p_if, p_if_else, verdict, egress_port, group, p_return, P4Block, p_done, p_then, P4Field, P4Header, P4Table, Program, field_widths, meta_width}
use Rattle.p4_ir.specs.P4Text.{p4_bounds, program_tokens}
use Rattle.cocoon_num.specs.Lists.{each, has_number, ascend, all_distinct}
use Rattle.p4_ir.specs.P4Kinds.{is_meta_name, last_is_digit, names_fit, widths_fit, table_fits, tables_fit, numbers_of, Within, meta_sort, field_sort, is_implies, p4_sort, is_empty, stmt_fits, block_fits, kinds_fit}
use Rattle.p4_ir.specs.P4Reads.{P4Reads}
use Rattle.p4_ir.specs.WellKinded.{is_well_kinded}
use Rattle.cocoon_num.specs.Packets.{total}
use Rattle.p4_emit.specs.Printed.{printed}
use Rattle.text_lines.proofs.Seams.{all_word_bytes, is_name}
use Rattle.p4_emit.proofs.Prints.{Each, FieldFits, HeaderFits, MetaFits, IfThere, each_found, ExprFits, StmtFits, BlockFits}
use Rattle.p4_emit.proofs.Whole.{TableFits, ProgramFits, printed_tokens}

-- ---- lists

each_both : {A : Type 0} (f g : A → Bool) (P : A → Type 0) → ((x : A) → f x ≡ true → g x ≡ true → P x) → (xs : List A) → each f xs ≡ true → each g xs ≡ true → Each P xs
each_both f g P h [] a b = tt
each_both f g P h (x ∷ xs) a b =
    let fs = and_parts (f x) (each f xs) a in
    let gs = and_parts (g x) (each g xs) b in
    (h x fs.0 gs.0, each_both f g P h xs fs.1 gs.1)

each_of : {A : Type 0} (f : A → Bool) (P : A → Type 0) → ((x : A) → f x ≡ true → P x) → (xs : List A) → each f xs ≡ true → Each P xs
each_of f P h xs a = each_both f f P (λ x e _. h x e) xs a a

each_map : {A B : Type 0} (f : B → Bool) (g : A → B) (xs : List A) → each f (map g xs) ≡ each (λ x. f (g x)) xs
each_map f g [] = refl
each_map f g (x ∷ xs) = ap (λ b. f (g x) && b) (each_map f g xs)

each_words : (w : List ℕ) → each is_run_byte w ≡ all_word_bytes w
each_words [] = refl
each_words (b ∷ w) = ap (λ c. is_run_byte b && c) (each_words w)

each_within : {A : Type 0} (P : A → Type 0) (xs : List A) (i : ℕ) → Each P xs → i < length xs → (x : A) × (slice_get xs i ≡ Some x) × P x
each_within P [] i e h = absurd (omega arith)
each_within P (x ∷ xs) zero e h = (x, refl, e.0)
each_within P (x ∷ xs) (suc i) e h = each_within P xs i e.1 (omega arith)

-- ---- names and widths

is_rest_words : (w : List ℕ) → is_run w ≡ true → all_word_bytes w ≡ true
is_rest_words [] h = cc
is_rest_words (b ∷ w) h = sym (each_words (b ∷ w)) ∙ h

same_name_is : (a b : List ℕ) → same_name a b ≡ true → a ≡ b
same_name_is [] [] h = refl
same_name_is (x ∷ xs) (y ∷ ys) h = let hs = and_parts (x == y) (same_name xs ys) h in ap₂ (λ u v. u ∷ v) (eqb-true x y hs.0) (same_name_is xs ys hs.1)
same_name_is [] (y ∷ ys) h = cc
same_name_is (x ∷ xs) [] h = cc

meta_is_name : (w : List ℕ) → is_meta_name w ≡ true → is_name w ≡ true
meta_is_name [] h = cc
meta_is_name (b ∷ bs) h =
    elim (or_cases (same_name (b ∷ bs) (codes "site")) (is_letter b && not (b == 95) && each is_run_byte bs && last_is_digit (b ∷ bs)) h) as (λ _. is_name (b ∷ bs) ≡ true) [
      | inl e ↦ ap is_name (same_name_is (b ∷ bs) (codes "site") e)
      | inr e ↦
          let h1 = and_parts (is_letter b && not (b == 95) && each is_run_byte bs) (last_is_digit (b ∷ bs)) e in
          let h2 = and_parts (is_letter b && not (b == 95)) (each is_run_byte bs) h1.0 in
          let h3 = and_parts (is_letter b) (not (b == 95)) h2.0 in
          ap₂ (λ u v. u && v) h3.0 (sym (each_words bs) ∙ h2.1)
    ]

-- a width from 1 to 64
record Wide (w : ℕ) : Type 0 where
  some : 1 ≤ w
  narrow : w ≤ 64

is_wide : (w : ℕ) → is_declared_width w ≡ true → Wide w
is_wide w h = let hs = and_parts (nat_le 1 w) (nat_le w 64) h in record { some = leb-true 1 w hs.0; narrow = leb-true w 64 hs.1 }

field_fits : (f : P4Field) → is_run f.name ≡ true → is_declared_width f.width ≡ true → FieldFits f
field_fits f n w = let wide = is_wide f.width w in record { name = is_rest_words f.name n; width = omega (arith, wide.narrow) }

header_fits : (h : P4Header) → (is_run h.name && each (λ (f : P4Field). is_run f.name) h.fields && all_distinct (map (λ (f : P4Field). f.name) h.fields)) ≡ true → each is_declared_width (field_widths h.fields) ≡ true → HeaderFits h
header_fits h n w =
    let h1 = and_parts (is_run h.name && each (λ (f : P4Field). is_run f.name) h.fields) _ n in
    let h2 = and_parts (is_run h.name) (each (λ (f : P4Field). is_run f.name) h.fields) h1.0 in
    record { name = is_rest_words h.name h2.0; fields = each_both (λ (f : P4Field). is_run f.name) (λ (f : P4Field). is_declared_width f.width) FieldFits field_fits h.fields h2.1 (sym (each_map is_declared_width (λ (f : P4Field). f.width) h.fields) ∙ w) }

meta_fits : (f : P4Field) → is_meta_name f.name ≡ true → is_declared_width f.width ≡ true → MetaFits f
meta_fits f n w = let wide = is_wide f.width w in record { name = meta_is_name f.name n; width = omega (arith, wide.narrow) }

-- every field's width, of the headers and of the meta fields
record AllWide (p : Program) : Type 0 where
  headers : Each (λ (h : P4Header). Each (λ (f : P4Field). Wide f.width) h.fields) p.headers
  meta : Each (λ (f : P4Field). Wide f.width) p.meta

wide_fields : (fs : List P4Field) → each is_declared_width (field_widths fs) ≡ true → Each (λ (f : P4Field). Wide f.width) fs
wide_fields fs h = each_of (λ (f : P4Field). is_declared_width f.width) (λ (f : P4Field). Wide f.width) (λ f e. is_wide f.width e) fs (sym (each_map is_declared_width (λ (f : P4Field). f.width) fs) ∙ h)

-- ---- expressions

abbrev Narrow : Sort → Type 0
Narrow (bits_sort w) = w ≤ 128
Narrow truth_sort = Unit {0}

-- an expression of this sort
record Fits (e : P4Expr) (s : Sort) : Type 0 where
  expr : ExprFits e
  narrow : Narrow s

narrow_if : (b : Bool) (s t : Sort) → kept_if b s ≡ Some t → Narrow s → Narrow t
narrow_if true s t h n = let e : s ≡ t = cc in subst Narrow e n
narrow_if false s t h n = cc

true_if : (b : Bool) (s t : Sort) → kept_if b s ≡ Some t → b ≡ true
true_if true s t h = refl
true_if false s t h = cc

narrow_found : (o : Option P4Field) (s : Sort) → IfThere (λ (f : P4Field). Wide f.width) o → option_map (λ (f : P4Field). bits_sort f.width) o ≡ Some s → Narrow s
narrow_found None s w h = cc
narrow_found (Some f) s w h = let e : bits_sort f.width ≡ s = cc in subst Narrow e (omega (arith, w.narrow))

narrow_field : (o : Option P4Header) (f : ℕ) (s : Sort) → IfThere (λ (h : P4Header). Each (λ (f : P4Field). Wide f.width) h.fields) o → option_and_then (λ (d : P4Header). option_map (λ (x : P4Field). bits_sort x.width) (slice_get d.fields f)) o ≡ Some s → Narrow s
narrow_field None f s w h = cc
narrow_field (Some d) f s w h = narrow_found (slice_get d.fields f) s (each_found (λ (f : P4Field). Wide f.width) d.fields f w) h

narrow_unary : (op : UnaryOp) (s t : Sort) → unary_sort op s ≡ Some t → Narrow s → Narrow t
narrow_unary flip (bits_sort w) t h n = let e : bits_sort w ≡ t = cc in subst Narrow e n
narrow_unary flip truth_sort t h n = cc
narrow_unary not_ truth_sort t h n = let e : truth_sort ≡ t = cc in subst Narrow e tt
narrow_unary not_ (bits_sort w) t h n = cc

some_if : (b : Bool) (s t : Sort) → (cond b (Some s) None) ≡ Some t → (b ≡ true) × (s ≡ t)
some_if true s t h = let e : s ≡ t = cc in (refl, e)
some_if false s t h = absurd (let e : None ≡ Some t = h in cc)

narrow_work : (k : Work) (s t u : Sort) → work_sort k s t ≡ Some u → Narrow t → Narrow u
narrow_work (computes f) (bits_sort v) (bits_sort w) u h n = subst Narrow (some_if (v == w) (bits_sort w) u h).1 n
narrow_work (compares f) (bits_sort v) (bits_sort w) u h n = subst Narrow (some_if (v == w) truth_sort u h).1 tt
narrow_work (combines f) truth_sort truth_sort u h n = let e : truth_sort ≡ u = cc in subst Narrow e tt
narrow_work joins (bits_sort v) (bits_sort w) u h n = let e = some_if (nat_le (v + w) 128) (bits_sort (v + w)) u h in subst Narrow e.1 (leb-true (v + w) 128 e.0)
narrow_work k s t u h n = cc

narrow_binary : (op : BinaryOp) (s t u : Sort) → binary_sort op s t ≡ Some u → Narrow t → Narrow u
narrow_binary op s t u h n = narrow_work (work op) s t u h n

slice_fits : (s t : Sort) (high low : ℕ) → slice_sort s high low ≡ Some t → Narrow s → (high < 128) × (low < 128) × Narrow t
slice_fits (bits_sort w) t high low h n =
    let e = some_if (nat_le low high && nat_lt high w) (bits_sort (high - low + 1)) t h in
    let k = and_parts (nat_le low high) (nat_lt high w) e.0 in
    let l : low ≤ high = leb-true low high k.0 in
    let m : high < w = ltb-true high w k.1 in
    (omega arith, omega arith, subst Narrow e.1 (omega arith))
slice_fits truth_sort t high low h n = cc

pick_narrow : (c s t u : Sort) → pick_sort c s t ≡ Some u → Narrow s → Narrow u
pick_narrow truth_sort s t u h n = subst Narrow (some_if (same_sort s t) s u h).1 n
pick_narrow (bits_sort w) s t u h n = cc

-- what there is where something comes out
after_some : (f : Sort → Option Sort) (o : Option Sort) (t : Sort) → option_and_then f o ≡ Some t → (s : Sort) × (o ≡ Some s) × (f s ≡ Some t)
after_some f None t h = cc
after_some f (Some s) t h = (s, refl, h)

after_two : (f : Sort → Sort → Option Sort) (o p : Option Sort) (u : Sort) → with_both f o p ≡ Some u → (s : Sort) × (o ≡ Some s) × ((t : Sort) × (p ≡ Some t) × (f s t ≡ Some u))
after_two f None p u h = cc
after_two f (Some s) None u h = cc
after_two f (Some s) (Some t) u h = (s, refl, (t, refl, h))

after_three : (f : Sort → Sort → Sort → Option Sort) (o p q : Option Sort) (u : Sort) → with_all f o p q ≡ Some u → (s : Sort) × (o ≡ Some s) × (with_both (f s) p q ≡ Some u)
after_three f None p q u h = cc
after_three f (Some s) p q u h = (s, refl, h)

no_implies : (b : Bool) (o : Option Sort) (u : Sort) → cond b None o ≡ Some u → (b ≡ false) × (o ≡ Some u)
no_implies true o u h = absurd (let e : None ≡ Some u = h in cc)
no_implies false o u h = (refl, h)

lit_fits : (w n : ℕ) → (nat_le 1 w && nat_le w 128 && nat_lt n (2 ^ w)) ≡ true → (1 ≤ w) × (w ≤ 128) × (n < 2 ^ w)
lit_fits w n h =
    let h1 = and_parts (nat_le 1 w && nat_le w 128) (nat_lt n (2 ^ w)) h in
    let h2 = and_parts (nat_le 1 w) (nat_le w 128) h1.0 in
    (leb-true 1 w h2.0, leb-true w 128 h2.1, ltb-true n (2 ^ w) h1.1)

expr_fits : (c : Within) → AllWide c.program → (e : P4Expr) (s : Sort) → p4_sort c e ≡ Some s → Fits e s
expr_fits c w (p_lit v n) s h =
    let f = lit_fits v n (true_if (nat_le 1 v && nat_le v 128 && nat_lt n (2 ^ v)) (bits_sort v) s h) in
    record { expr = f; narrow = narrow_if (nat_le 1 v && nat_le v 128 && nat_lt n (2 ^ v)) (bits_sort v) s h f.1 }
expr_fits c w (p_truth b) s h = let e : truth_sort ≡ s = cc in record { expr = tt; narrow = subst Narrow e tt }
expr_fits c w (p_meta i) s h = record { expr = tt; narrow = narrow_found (slice_get c.program.meta i) s (each_found (λ (f : P4Field). Wide f.width) c.program.meta i w.meta) h }
expr_fits c w (p_field d f) s h =
    record { expr = tt; narrow = narrow_field (slice_get c.program.headers d) f s (each_found (λ (h : P4Header). Each (λ (f : P4Field). Wide f.width) h.fields) c.program.headers d w.headers) h }
expr_fits c w p_port s h = record { expr = tt; narrow = narrow_if c.in_ingress (bits_sort 16) s h (omega arith) }
expr_fits c w p_rid s h = record { expr = tt; narrow = narrow_if (not c.in_ingress) (bits_sort 64) s h (omega arith) }
expr_fits c w (p_unary op a) s h =
    let r = after_some (unary_sort op) (p4_sort c a) s h in
    let f = expr_fits c w a r.0 r.1 in
    record { expr = f.expr; narrow = narrow_unary op r.0 s r.2 f.narrow }
expr_fits c w (p_binary op a b) s h =
    let i = no_implies (is_implies op) (with_both (binary_sort op) (p4_sort c a) (p4_sort c b)) s h in
    let r = after_two (binary_sort op) (p4_sort c a) (p4_sort c b) s i.1 in
    let f = expr_fits c w a r.0 r.1 in
    let g = expr_fits c w b r.2.0 r.2.1 in
    record { expr = (i.0, f.expr, g.expr); narrow = narrow_binary op r.0 r.2.0 s r.2.2 g.narrow }
expr_fits c w (p_slice a high low) s h =
    let r = after_some (λ t. slice_sort t high low) (p4_sort c a) s h in
    let f = expr_fits c w a r.0 r.1 in
    let k = slice_fits r.0 s high low r.2 f.narrow in
    record { expr = (f.expr, omega arith, omega arith); narrow = k.2 }
expr_fits c w (p_pick d a b) s h =
    let q = after_three pick_sort (p4_sort c d) (p4_sort c a) (p4_sort c b) s h in
    let r = after_two (pick_sort q.0) (p4_sort c a) (p4_sort c b) s q.2 in
    let e = expr_fits c w d q.0 q.1 in
    let f = expr_fits c w a r.0 r.1 in
    let g = expr_fits c w b r.2.0 r.2.1 in
    record { expr = (e.expr, f.expr, g.expr); narrow = pick_narrow q.0 r.0 r.2.0 s r.2.2 f.narrow }

-- ---- statements

sort_there : (s : Sort) (o : Option Sort) → has_sort s o ≡ true → (t : Sort) × (o ≡ Some t)
sort_there s None h = cc
sort_there s (Some t) h = (t, refl)

value_fits : (c : Within) → AllWide c.program → (s : Sort) (e : P4Expr) → has_sort s (p4_sort c e) ≡ true → ExprFits e
value_fits c w s e h = let r = sort_there s (p4_sort c e) h in (expr_fits c w e r.0 r.1).expr

set_fits : (c : Within) → AllWide c.program → (o : Option Sort) (e : P4Expr) → are_same o (p4_sort c e) ≡ true → ExprFits e
set_fits c w None e h = cc
set_fits c w (Some s) e h = value_fits c w s e h

number_fits : (n : ℕ) (ms : List ℕ) → Each (λ m. m < 2 ^ 32) ms → has_number n ms ≡ true → n < 2 ^ 32
number_fits n [] e h = cc
number_fits n (m ∷ ms) e h = elim (or_cases (n == m) (has_number n ms) h) as (λ _. n < 2 ^ 32) [
  | inl s ↦ (let same : n ≡ m = eqb-true n m s in let small : m < 2 ^ 32 = e.0 in omega arith)
  | inr r ↦ number_fits n ms e.1 r
]

verdict_fits : (n : ℕ) (i : Bool) → (nat_le n 1 || (i && (n == 2))) ≡ true → n < 2 ^ 8
verdict_fits n i h = elim (or_cases (nat_le n 1) (i && (n == 2)) h) as (λ _. n < 2 ^ 8) [
  | inl s ↦ (let small : n ≤ 1 = leb-true n 1 s in omega arith)
  | inr r ↦ (let same : n ≡ 2 = eqb-true n 2 (and_parts i (n == 2) r).1 in omega arith)
]

mutual
  stmt_of_kind : (c : Within) → AllWide c.program → Each (λ m. m < 2 ^ 32) c.tables → (s : P4Stmt) → stmt_fits c s ≡ true → StmtFits s
  stmt_of_kind c w t (set_meta i e) h = set_fits c w (meta_sort c.program i) e h
  stmt_of_kind c w t (set_header d f e) h = set_fits c w (field_sort c.program d f) e h
  stmt_of_kind c w t (apply_table n) h = number_fits n c.tables t h
  stmt_of_kind c w t (p_if e first) h =
      let k = and_parts (has_sort truth_sort (p4_sort c e)) (block_fits c first) h in
      (value_fits c w truth_sort e k.0, block_of_kind c w t first k.1)
  stmt_of_kind c w t (p_if_else e first second) h =
      let k = and_parts (has_sort truth_sort (p4_sort c e) && block_fits c first && not (is_empty second)) (block_fits c second) h in
      let l = and_parts (has_sort truth_sort (p4_sort c e) && block_fits c first) (not (is_empty second)) k.0 in
      let m = and_parts (has_sort truth_sort (p4_sort c e)) (block_fits c first) l.0 in
      (value_fits c w truth_sort e m.0, block_of_kind c w t first m.1, block_of_kind c w t second k.1)
  stmt_of_kind c w t (verdict n) h = verdict_fits n c.in_ingress h
  stmt_of_kind c w t (egress_port e) h = value_fits c w (bits_sort 16) e h
  stmt_of_kind c w t (group e) h = value_fits c w (bits_sort 16) e (and_parts c.in_ingress (has_sort (bits_sort 16) (p4_sort c e)) h).1
  stmt_of_kind c w t p_return h = tt

  block_of_kind : (c : Within) → AllWide c.program → Each (λ m. m < 2 ^ 32) c.tables → (b : P4Block) → block_fits c b ≡ true → BlockFits b
  block_of_kind c w t p_done h = tt
  block_of_kind c w t (p_then first rest) h =
      let k = and_parts (stmt_fits c first) (block_fits c rest) h in
      (stmt_of_kind c w t first k.0, block_of_kind c w t rest k.1)

-- ---- tables

width_found : (o : Option P4Field) (f : P4Field) → o ≡ Some f → elim o as (λ _. ℕ) [ Some f ↦ f.width | None ↦ 0 ] ≡ f.width
width_found o f h = ap (λ v. elim v as (λ _. ℕ) [ Some f ↦ f.width | None ↦ 0 ]) h

table_of_kind : (p : Program) → AllWide p → (t : P4Table) → table_fits p t ≡ true → TableFits p t
table_of_kind p w t h =
    let h1 = and_parts (not (length t.keys == 0) && each (λ i. nat_lt i (length p.meta)) t.keys && nat_lt t.result (length p.meta)) (nat_lt t.number (2 ^ 32 - 1)) h in
    let h2 = and_parts (not (length t.keys == 0) && each (λ i. nat_lt i (length p.meta)) t.keys) (nat_lt t.result (length p.meta)) h1.0 in
    let small : t.number < 2 ^ 32 - 1 = ltb-true t.number (2 ^ 32 - 1) h1.1 in
    let f = each_within (λ (f : P4Field). Wide f.width) p.meta t.result w.meta (ltb-true t.result (length p.meta) h2.1) in
    let e : meta_width p t.result ≡ (f.0).width = width_found (slice_get p.meta t.result) f.0 f.1 in
    record { number = omega arith; some = rw e f.2.some; narrow = rw e (omega (arith, f.2.narrow)) }

number_small : (p : Program) (ts : List P4Table) → Each (TableFits p) ts → Each (λ m. m < 2 ^ 32) (numbers_of ts)
number_small p [] e = tt
number_small p (t ∷ ts) e = (e.0.number, number_small p ts e.1)

-- ---- programs

pub kinds_spell : (p : Program) → kinds_fit p ≡ true → ProgramFits p
kinds_spell p h =
    let ingress : Within = record { program = p; in_ingress = true; tables = numbers_of p.ingress.tables } in
    let egress : Within = record { program = p; in_ingress = false; tables = numbers_of p.egress.tables } in
    let h1 = and_parts (names_fit p && widths_fit p && tables_fit p && block_fits ingress p.ingress.body) (block_fits egress p.egress.body) h in
    let h2 = and_parts (names_fit p && widths_fit p && tables_fit p) (block_fits ingress p.ingress.body) h1.0 in
    let h3 = and_parts (names_fit p && widths_fit p) (tables_fit p) h2.0 in
    let h4 = and_parts (names_fit p) (widths_fit p) h3.0 in
    let n1 = and_parts (each (λ (h : P4Header). is_run h.name && each (λ (f : P4Field). is_run f.name) h.fields && all_distinct (map (λ (f : P4Field). f.name) h.fields)) p.headers && all_distinct (map (λ (h : P4Header). h.name) p.headers) && each (λ (f : P4Field). is_meta_name f.name) p.meta) (all_distinct (map (λ (f : P4Field). f.name) p.meta)) h4.0 in
    let n2 = and_parts (each (λ (h : P4Header). is_run h.name && each (λ (f : P4Field). is_run f.name) h.fields && all_distinct (map (λ (f : P4Field). f.name) h.fields)) p.headers && all_distinct (map (λ (h : P4Header). h.name) p.headers)) (each (λ (f : P4Field). is_meta_name f.name) p.meta) n1.0 in
    let n3 = and_parts (each (λ (h : P4Header). is_run h.name && each (λ (f : P4Field). is_run f.name) h.fields && all_distinct (map (λ (f : P4Field). f.name) h.fields)) p.headers) (all_distinct (map (λ (h : P4Header). h.name) p.headers)) n2.0 in
    let w1 = and_parts (each (λ (h : P4Header). each is_declared_width (field_widths h.fields) && (total (field_widths h.fields) % 8 == 0)) p.headers) (each is_declared_width (field_widths p.meta)) h4.1 in
    let t1 = and_parts (each (table_fits p) p.ingress.tables && each (table_fits p) p.egress.tables) (ascend (numbers_of p.ingress.tables ++ numbers_of p.egress.tables)) h3.1 in
    let t2 = and_parts (each (table_fits p) p.ingress.tables) (each (table_fits p) p.egress.tables) t1.0 in
    let wide : AllWide p = record {
      headers = each_of (λ (h : P4Header). each is_declared_width (field_widths h.fields) && (total (field_widths h.fields) % 8 == 0)) (λ (h : P4Header). Each (λ (f : P4Field). Wide f.width) h.fields)
          (λ h e. wide_fields h.fields (and_parts (each is_declared_width (field_widths h.fields)) (total (field_widths h.fields) % 8 == 0) e).0) p.headers w1.0;
      meta = wide_fields p.meta w1.1;
    } in
    let ing : Each (TableFits p) p.ingress.tables = each_of (table_fits p) (TableFits p) (table_of_kind p wide) p.ingress.tables t2.0 in
    let egr : Each (TableFits p) p.egress.tables = each_of (table_fits p) (TableFits p) (table_of_kind p wide) p.egress.tables t2.1 in
    record {
      names = record {
        headers = each_both (λ (h : P4Header). is_run h.name && each (λ (f : P4Field). is_run f.name) h.fields && all_distinct (map (λ (f : P4Field). f.name) h.fields)) (λ (h : P4Header). each is_declared_width (field_widths h.fields) && (total (field_widths h.fields) % 8 == 0)) HeaderFits
            (λ h a b. header_fits h a (and_parts (each is_declared_width (field_widths h.fields)) (total (field_widths h.fields) % 8 == 0) b).0) p.headers n3.0 w1.0;
        meta = each_both (λ (f : P4Field). is_meta_name f.name) (λ (f : P4Field). is_declared_width f.width) MetaFits meta_fits p.meta n2.1 (sym (each_map is_declared_width (λ (f : P4Field). f.width) p.meta) ∙ w1.1);
      };
      ingress = record { tables = ing; body = block_of_kind ingress wide (number_small p p.ingress.tables ing) p.ingress.body h2.1 };
      egress = record { tables = egr; body = block_of_kind egress wide (number_small p p.egress.tables egr) p.egress.body h1.1 };
    }

-- the printed text of a well-kinded program reads as the program
pub printed_reads : (p : Program) → is_well_kinded p ≡ true → P4Reads (printed p) p
printed_reads p k =
    let kinds = and_parts (kinds_fit p) (is_shallow p4_bounds (program_tokens p)) k in
    let l = printed_tokens p (kinds_spell p kinds.0) in
    record { tokens = l.0; tokens_are = l.1; reads = l.2; well_kinded = k }
