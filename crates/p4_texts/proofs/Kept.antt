-- Texts without a fault of kind: the program that such a text stands for keeps the kind rules.
use Rattle.std.specs.Prelude.{◌≡◌, ℕ, ◌+◌, ◌%◌, ◌&&◌, ◌==◌, Bool, true, false, not, nat_le, List, [], ◌∷◌, ◌++◌, length, map, codes, decimal, if◌then◌else◌, refl}
use Rattle.std.proofs.Common.{sym, ap, ◌∙◌, append_assoc, append-nil}
use Rattle.std.proofs.lemmas.Bool.{and_parts, and_from}
use Rattle.cocoon_num.specs.Lists.{all_distinct, ascend, each, is_one_of}
use Rattle.cocoon_num.specs.Names.{same_name}
use Rattle.cocoon_num.specs.Packets.{total}
use Rattle.cocoon_num.specs.Sorts.{has_sort, is_declared_width, truth_sort}
use Rattle.cocoon_num.specs.Tokens.{is_run}
use Rattle.p4_ir.specs.P4Kinds.{Within, block_fits, is_empty, is_meta_name, numbers_of, p4_sort, stmt_fits, table_fits}
use Rattle.p4_ir.specs.P4Tree.{P4Field, P4Header, field_widths, verdict}
use Rattle.p4_texts.specs.KindFaults.{Piece, action_keeps, block_pieces, faults_from, field_keeps, field_pieces, header_keeps, header_pieces, least_after, meta_keeps, meta_pieces, stmt_keeps, stmt_pieces, table_keeps, table_pieces}
use Rattle.p4_texts.specs.Meant.{block_meant, expr_meant, field_meant, header_meant, meta_meant, number_in, program_of_text, stmt_meant, table_meant}
use Rattle.p4_texts.specs.Written.{StmtText, w_set_meta, w_set_field, w_apply, w_if, w_if_else, w_verdict, w_egress_port, w_group, w_return, BlockText, w_done, w_then, FieldText, HeaderText, ProgramText, TableText}
use Rattle.p4_texts.proofs.Lists.{one_above, one_more}

-- ---- no fault

abbrev pub kept : List Piece → Bool
kept xs = each (λ (x : Piece). x.keeps) xs

fault_or : (b : Bool) (n : ℕ) (r : List ℕ) (k : Bool) → (r ≡ [] → k ≡ true) → (if b then r else n ∷ r) ≡ [] → (b && k) ≡ true
fault_or true n r k h e = h e
fault_or false n r k h e = absurd cc

pub none_broken : (at : ℕ) (xs : List Piece) → faults_from at xs ≡ [] → kept xs ≡ true
none_broken at [] e = refl
none_broken at (x ∷ xs) e = fault_or x.keeps at (faults_from (at + length x.tokens) xs) (kept xs) (none_broken (at + length x.tokens) xs) e

keeps_or : (b : Bool) (n : ℕ) (r : List ℕ) (k : Bool) → (k ≡ true → r ≡ []) → (b && k) ≡ true → (if b then r else n ∷ r) ≡ []
keeps_or true n r k h e = h e
keeps_or false n r k h e = absurd cc

pub no_faults : (at : ℕ) (xs : List Piece) → kept xs ≡ true → faults_from at xs ≡ []
no_faults at [] e = refl
no_faults at (x ∷ xs) e = keeps_or x.keeps at (faults_from (at + length x.tokens) xs) (kept xs) (no_faults (at + length x.tokens) xs) e

and_assoc : (a b c : Bool) → (a && (b && c)) ≡ ((a && b) && c)
and_assoc true b c = refl
and_assoc false b c = refl

kept_append : (xs ys : List Piece) → kept (xs ++ ys) ≡ (kept xs && kept ys)
kept_append [] ys = refl
kept_append (x ∷ xs) ys = ap (λ b. x.keeps && b) (kept_append xs ys) ∙ and_assoc x.keeps (kept xs) (kept ys)

pub kept_parts : (xs ys : List Piece) → kept (xs ++ ys) ≡ true → (kept xs ≡ true) × (kept ys ≡ true)
kept_parts xs ys h = and_parts (kept xs) (kept ys) (sym (kept_append xs ys) ∙ h)

pub kept_both : (xs ys : List Piece) → kept xs ≡ true → kept ys ≡ true → kept (xs ++ ys) ≡ true
kept_both xs ys h k = kept_append xs ys ∙ and_from (kept xs) (kept ys) h k

-- ---- statements

first_kept : (a b : Bool) → (a && b) ≡ true → a ≡ true
first_kept a b h = (and_parts a b h).0

mutual
  stmt_kept : (t : ProgramText) (c : Within) (s : StmtText) → kept (stmt_pieces t c s) ≡ true → stmt_fits c (stmt_meant t s) ≡ true
  stmt_kept t c (w_set_meta x e) h = first_kept (stmt_keeps t c (w_set_meta x e)) true h
  stmt_kept t c (w_set_field f g e) h = first_kept (stmt_keeps t c (w_set_field f g e)) true h
  stmt_kept t c (w_apply x) h = first_kept (stmt_fits c (stmt_meant t (w_apply x))) (same_name x (codes "t" ++ decimal (number_in x))) (first_kept (stmt_keeps t c (w_apply x)) true h)
  stmt_kept t c (w_if e a) h =
      let p = and_parts (stmt_keeps t c (w_if e a)) (kept (block_pieces t c a ++ (_ ∷ []))) h in
      and_from (has_sort truth_sort (p4_sort c (expr_meant t e))) (block_fits c (block_meant t a)) p.0 (block_kept t c a (kept_parts (block_pieces t c a) (_ ∷ []) p.1).0)
  stmt_kept t c (w_if_else e a b) h =
      let p = and_parts (stmt_keeps t c (w_if_else e a b)) (kept (block_pieces t c a ++ (_ ∷ (block_pieces t c b ++ (_ ∷ []))))) h in
      let q = kept_parts (block_pieces t c a) (_ ∷ (block_pieces t c b ++ (_ ∷ []))) p.1 in
      let r = kept_parts (block_pieces t c b) (_ ∷ []) q.1 in
      let own = and_parts (has_sort truth_sort (p4_sort c (expr_meant t e))) (not (is_empty (block_meant t b))) p.0 in
      let first = and_from (has_sort truth_sort (p4_sort c (expr_meant t e))) (block_fits c (block_meant t a)) own.0 (block_kept t c a q.0) in
      let filled = and_from (has_sort truth_sort (p4_sort c (expr_meant t e)) && block_fits c (block_meant t a)) (not (is_empty (block_meant t b))) first own.1 in
      and_from (has_sort truth_sort (p4_sort c (expr_meant t e)) && block_fits c (block_meant t a) && not (is_empty (block_meant t b))) (block_fits c (block_meant t b)) filled (block_kept t c b r.0)
  stmt_kept t c (w_verdict w n) h = (and_parts (w == 8) (stmt_fits c (verdict n)) (first_kept (stmt_keeps t c (w_verdict w n)) true h)).1
  stmt_kept t c (w_egress_port e) h = first_kept (stmt_keeps t c (w_egress_port e)) true h
  stmt_kept t c (w_group e) h = first_kept (stmt_keeps t c (w_group e)) true h
  stmt_kept t c w_return h = refl

  pub block_kept : (t : ProgramText) (c : Within) (b : BlockText) → kept (block_pieces t c b) ≡ true → block_fits c (block_meant t b) ≡ true
  block_kept t c w_done h = refl
  block_kept t c (w_then s b) h =
      let p = kept_parts (stmt_pieces t c s) (block_pieces t c b) h in
      and_from (stmt_fits c (stmt_meant t s)) (block_fits c (block_meant t b)) (stmt_kept t c s p.0) (block_kept t c b p.1)

-- ---- tables

-- the tables of a control fit, and their numbers ascend after those before
pub record TablesKept (t : ProgramText) (numbers : List ℕ) (ts : List TableText) : Type 0 where
  pub fit : each (table_fits (program_of_text t)) (map (table_meant t) ts) ≡ true
  pub rise : ascend (numbers ++ numbers_of (map (table_meant t) ts)) ≡ true

table_parts : (a b c d e f g : Bool) → (a && b && c && d && e && f && g) ≡ true → (b ≡ true) × (c ≡ true)
table_parts true true true d e f g h = (refl, refl)
table_parts true true false d e f g h = absurd cc
table_parts true false c d e f g h = absurd cc
table_parts false b c d e f g h = absurd cc

pub tables_kept : (t : ProgramText) (actions : List (List ℕ)) (numbers : List ℕ) (ts : List TableText) → kept (table_pieces t actions numbers ts) ≡ true → ascend numbers ≡ true → TablesKept t numbers ts
tables_kept t actions numbers [] h r = record { fit = refl; rise = ap ascend (append-nil numbers) ∙ r }
tables_kept t actions numbers (k ∷ ts) h r =
    let later : List Piece = table_pieces t (actions ++ (k.action ∷ [])) (numbers ++ (number_in k.action ∷ [])) ts in
    let p = and_parts (action_keeps t actions k) (table_keeps t numbers k && kept later) h in
    let q = and_parts (table_keeps t numbers k) (kept later) p.1 in
    let s = table_parts (same_name k.table (codes "t" ++ decimal (number_in k.action))) (nat_le (least_after numbers) (number_in k.action)) (table_fits (program_of_text t) (table_meant t k))
    (same_name k.actions k.action) (same_name k.default_action k.action) (k.default_width == k.width) (k.default == 0) q.0 in
    let after = tables_kept t (actions ++ (k.action ∷ [])) (numbers ++ (number_in k.action ∷ [])) ts q.1 (one_above numbers (number_in k.action) r s.0) in
    record {
      fit = and_from (table_fits (program_of_text t) (table_meant t k)) (each (table_fits (program_of_text t)) (map (table_meant t) ts)) s.1 after.fit;
      rise = ap ascend (sym (append_assoc numbers (number_in k.action ∷ []) (numbers_of (map (table_meant t) ts)))) ∙ after.rise;
    }

-- ---- fields and headers

name_parts : (a b c : Bool) → (a && b && c) ≡ true → (a ≡ true) × (b ≡ true) × (c ≡ true)
name_parts true true true h = (refl, refl, refl)
name_parts true true false h = absurd cc
name_parts true false c h = absurd cc
name_parts false b c h = absurd cc

pub record FieldsKept (before : List (List ℕ)) (fs : List P4Field) : Type 0 where
  pub named : each (λ (f : P4Field). is_run f.name) fs ≡ true
  pub distinct : all_distinct (before ++ map (λ (f : P4Field). f.name) fs) ≡ true
  pub wide : each is_declared_width (field_widths fs) ≡ true

pub fields_kept : (before : List (List ℕ)) (fs : List FieldText) → kept (field_pieces before fs) ≡ true → all_distinct before ≡ true → FieldsKept before (map field_meant fs)
fields_kept before [] h d = record { named = refl; distinct = ap all_distinct (append-nil before) ∙ d; wide = refl }
fields_kept before (f ∷ fs) h d =
    let g : P4Field = field_meant f in
    let later : List Piece = field_pieces (before ++ (g.name ∷ [])) fs in
    let p = and_parts (field_keeps before g) (kept later) h in
    let q = name_parts (is_run g.name) (not (is_one_of before g.name)) (is_declared_width g.width) p.0 in
    let after = fields_kept (before ++ (g.name ∷ [])) fs p.1 (one_more before g.name d q.1) in
    record {
      named = and_from (is_run g.name) (each (λ (f : P4Field). is_run f.name) (map field_meant fs)) q.0 after.named;
      distinct = ap all_distinct (sym (append_assoc before (g.name ∷ []) (map (λ (f : P4Field). f.name) (map field_meant fs)))) ∙ after.distinct;
      wide = and_from (is_declared_width g.width) (each is_declared_width (field_widths (map field_meant fs))) q.2 after.wide;
    }

pub record MetaKept (before : List (List ℕ)) (fs : List P4Field) : Type 0 where
  pub named : each (λ (f : P4Field). is_meta_name f.name) fs ≡ true
  pub distinct : all_distinct (before ++ map (λ (f : P4Field). f.name) fs) ≡ true
  pub wide : each is_declared_width (field_widths fs) ≡ true

pub meta_kept : (before : List (List ℕ)) (fs : List FieldText) → kept (meta_pieces before fs) ≡ true → all_distinct before ≡ true → MetaKept before (map meta_meant fs)
meta_kept before [] h d = record { named = refl; distinct = ap all_distinct (append-nil before) ∙ d; wide = refl }
meta_kept before (f ∷ fs) h d =
    let later : List Piece = meta_pieces (before ++ (f.name ∷ [])) fs in
    let p = and_parts (meta_keeps before (meta_meant f)) (kept later) h in
    let q = name_parts (is_meta_name f.name) (not (is_one_of before f.name)) (is_declared_width f.width) p.0 in
    let after = meta_kept (before ++ (f.name ∷ [])) fs p.1 (one_more before f.name d q.1) in
    record {
      named = and_from (is_meta_name f.name) (each (λ (f : P4Field). is_meta_name f.name) (map meta_meant fs)) q.0 after.named;
      distinct = ap all_distinct (sym (append_assoc before (f.name ∷ []) (map (λ (f : P4Field). f.name) (map meta_meant fs)))) ∙ after.distinct;
      wide = and_from (is_declared_width f.width) (each is_declared_width (field_widths (map meta_meant fs))) q.2 after.wide;
    }

-- as names_fit and widths_fit have them
abbrev pub header_named : P4Header → Bool
header_named h = is_run h.name && each (λ (f : P4Field). is_run f.name) h.fields && all_distinct (map (λ (f : P4Field). f.name) h.fields)

abbrev pub header_wide : P4Header → Bool
header_wide h = each is_declared_width (field_widths h.fields) && (total (field_widths h.fields) % 8 == 0)

pub record HeadersKept (before : List (List ℕ)) (hs : List P4Header) : Type 0 where
  pub named : each header_named hs ≡ true
  pub distinct : all_distinct (before ++ map (λ (h : P4Header). h.name) hs) ≡ true
  pub wide : each header_wide hs ≡ true

pub headers_kept : (before : List (List ℕ)) (hs : List HeaderText) → kept (header_pieces before hs) ≡ true → all_distinct before ≡ true → HeadersKept before (map header_meant hs)
headers_kept before [] e d = record { named = refl; distinct = ap all_distinct (append-nil before) ∙ d; wide = refl }
headers_kept before (h ∷ hs) e d =
    let g : P4Header = header_meant h in
    let later : List Piece = header_pieces (before ++ (g.name ∷ [])) hs in
    let p = and_parts (header_keeps before g) (kept (field_pieces [] h.fields ++ (_ ∷ later))) e in
    let q = name_parts (is_run g.name) (not (is_one_of before g.name)) (total (field_widths g.fields) % 8 == 0) p.0 in
    let r = kept_parts (field_pieces [] h.fields) (_ ∷ later) p.1 in
    let own = fields_kept [] h.fields r.0 refl in
    let after = headers_kept (before ++ (g.name ∷ [])) hs r.1 (one_more before g.name d q.1) in
    let runs : (is_run g.name && each (λ (f : P4Field). is_run f.name) g.fields) ≡ true = and_from (is_run g.name) (each (λ (f : P4Field). is_run f.name) g.fields) q.0 own.named in
    record {
      named = and_from (header_named g) (each header_named (map header_meant hs)) (and_from (is_run g.name && each (λ (f : P4Field). is_run f.name) g.fields) (all_distinct (map (λ (f : P4Field). f.name) g.fields)) runs own.distinct) after.named;
      distinct = ap all_distinct (sym (append_assoc before (g.name ∷ []) (map (λ (h : P4Header). h.name) (map header_meant hs)))) ∙ after.distinct;
      wide = and_from (header_wide g) (each header_wide (map header_meant hs)) (and_from (each is_declared_width (field_widths g.fields)) (total (field_widths g.fields) % 8 == 0) own.wide q.2) after.wide;
    }
