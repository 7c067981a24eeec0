-- The kind rules of programs: names, widths, tables, operands, and what stands in which control. It follows "Kind
-- rules" in docs/FORMATS.md; they are P4-16's, narrowed to the subset. Optional headers, tags and versions of rows are
-- absent.
use Rattle.std.specs.Prelude.{ℕ, ◌-◌, ◌^◌, ◌%◌, ◌==◌, ◌&&◌, ◌||◌, Bool, true, false, not, nat_le, nat_lt, List, [], ◌∷◌, ◌++◌, length, map, slice_get, if◌then◌else◌, Option, Some, None, option_map, option_and_then, codes}
use Rattle.cocoon_num.specs.Values.{BinaryOp, implies}
use Rattle.cocoon_num.specs.Names.{same_name}
use Rattle.cocoon_num.specs.Packets.{total}
use Rattle.cocoon_num.specs.Tokens.{is_digit, is_letter, is_run_byte, is_run, kept_if}
use Rattle.cocoon_num.specs.Sorts.{is_declared_width, Sort, bits_sort, truth_sort, unary_sort, binary_sort, slice_sort, pick_sort, has_sort, are_same}
use Rattle.cocoon_num.specs.Values.{with_both, with_all}
use Rattle.p4_ir.specs.P4Tree.{P4Expr, p_lit, p_truth, p_meta, p_field, p_port, p_rid, p_unary, p_binary, p_slice, p_pick, P4Stmt, set_meta, set_header, apply_table, p_if, p_if_else, verdict, egress_port, group, p_return, P4Block, p_done, p_then, P4Field, P4Header, P4Table, Program, field_widths}
use Rattle.cocoon_num.specs.Lists.{all_distinct, each, has_number, ascend}

-- ---- names

abbrev pub last_is_digit : List ℕ → Bool
last_is_digit [] = false
last_is_digit (b ∷ []) = is_digit b
last_is_digit (b ∷ c ∷ bs) = last_is_digit (c ∷ bs)

-- `site`, or a letter, then letters, digits and `_`, and a digit at the end
abbrev pub is_meta_name : List ℕ → Bool
is_meta_name [] = false
is_meta_name (b ∷ bs) = same_name (b ∷ bs) (codes "site") || (is_letter b && not (b == 95) && each is_run_byte bs && last_is_digit (b ∷ bs))

abbrev pub names_fit : Program → Bool
names_fit p =
    each (λ (h : P4Header). is_run h.name && each (λ (f : P4Field). is_run f.name) h.fields && all_distinct (map (λ (f : P4Field). f.name) h.fields)) p.headers
    && all_distinct (map (λ (h : P4Header). h.name) p.headers)
    && each (λ (f : P4Field). is_meta_name f.name) p.meta
    && all_distinct (map (λ (f : P4Field). f.name) p.meta)

-- ---- widths

abbrev pub widths_fit : Program → Bool
widths_fit p =
    each (λ (h : P4Header). each is_declared_width (field_widths h.fields) && (total (field_widths h.fields) % 8 == 0)) p.headers
    && each is_declared_width (field_widths p.meta)

-- ---- tables

abbrev pub table_fits : Program → P4Table → Bool
table_fits p t =
    not (length t.keys == 0) && each (λ i. nat_lt i (length p.meta)) t.keys && nat_lt t.result (length p.meta) && nat_lt t.number (2 ^ 32 - 1)

abbrev pub numbers_of : List P4Table → List ℕ
numbers_of ts = map (λ (t : P4Table). t.number) ts

abbrev pub tables_fit : Program → Bool
tables_fit p =
    each (table_fits p) p.ingress.tables && each (table_fits p) p.egress.tables
    && ascend (numbers_of p.ingress.tables ++ numbers_of p.egress.tables)

-- ---- expressions and statements

-- where a statement stands: in which program, in ingress or not, and with which tables
pub record Within : Type 0 where
  pub program : Program
  pub in_ingress : Bool
  pub tables : List ℕ

abbrev pub meta_sort : Program → ℕ → Option Sort
meta_sort p i = option_map (λ (f : P4Field). bits_sort f.width) (slice_get p.meta i)

abbrev pub field_sort : Program → ℕ → ℕ → Option Sort
field_sort p h f = option_and_then (λ (d : P4Header). option_map (λ (x : P4Field). bits_sort x.width) (slice_get d.fields f)) (slice_get p.headers h)

abbrev pub is_implies : BinaryOp → Bool
is_implies implies = true
is_implies _ = false

abbrev pub p4_sort : Within → P4Expr → Option Sort
p4_sort c (p_lit w n) = kept_if (nat_le 1 w && nat_le w 128 && nat_lt n (2 ^ w)) (bits_sort w)
p4_sort c (p_truth b) = Some truth_sort
p4_sort c (p_meta i) = meta_sort c.program i
p4_sort c (p_field h f) = field_sort c.program h f
p4_sort c p_port = kept_if c.in_ingress (bits_sort 16)
p4_sort c p_rid = kept_if (not c.in_ingress) (bits_sort 64)
p4_sort c (p_unary op a) = option_and_then (unary_sort op) (p4_sort c a)
p4_sort c (p_binary op a b) = if is_implies op then None else with_both (binary_sort op) (p4_sort c a) (p4_sort c b)
p4_sort c (p_slice a high low) = option_and_then (λ s. slice_sort s high low) (p4_sort c a)
p4_sort c (p_pick e a b) = with_all pick_sort (p4_sort c e) (p4_sort c a) (p4_sort c b)

abbrev pub is_empty : P4Block → Bool
is_empty p_done = true
is_empty (p_then first rest) = false

abbrev mutual
  pub stmt_fits : Within → P4Stmt → Bool
  stmt_fits c (set_meta i e) = are_same (meta_sort c.program i) (p4_sort c e)
  stmt_fits c (set_header h f e) = are_same (field_sort c.program h f) (p4_sort c e)
  stmt_fits c (apply_table n) = has_number n c.tables
  stmt_fits c (p_if e first) = has_sort truth_sort (p4_sort c e) && block_fits c first
  stmt_fits c (p_if_else e first second) = has_sort truth_sort (p4_sort c e) && block_fits c first && not (is_empty second) && block_fits c second
  stmt_fits c (verdict n) = nat_le n 1 || (c.in_ingress && (n == 2))
  stmt_fits c (egress_port e) = has_sort (bits_sort 16) (p4_sort c e)
  stmt_fits c (group e) = c.in_ingress && has_sort (bits_sort 16) (p4_sort c e)
  stmt_fits c p_return = true

  pub block_fits : Within → P4Block → Bool
  block_fits c p_done = true
  block_fits c (p_then first rest) = stmt_fits c first && block_fits c rest

abbrev pub kinds_fit : Program → Bool
kinds_fit p =
    names_fit p && widths_fit p && tables_fit p
    && block_fits (record { program = p; in_ingress = true; tables = numbers_of p.ingress.tables }) p.ingress.body
    && block_fits (record { program = p; in_ingress = false; tables = numbers_of p.egress.tables }) p.egress.body
