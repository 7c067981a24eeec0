-- The same for declarations, and all goals together.
use Rattle.std.specs.Prelude.{◌≡◌, ℕ, zero, suc, ◌+◌, Bool, true, false, List, [], ◌∷◌, ◌++◌, length, Some, codes, refl}
use Rattle.std.proofs.Common.{sym, ◌∙◌, ap, subst, arith}
use Rattle.cocoon_num.specs.Tokens.{Kind, a_name, plain, literal, mark, finish}
use Rattle.p4_ir.specs.P4Text.{said}
use Rattle.p4_texts.specs.Machine.{Goal, exactly, any_name, any_plain, any_literal, an_expr, after_expr, opened, stmts, stmts_or_else, after_else, after_first, dotted, after_meta, after_header, fields, headers, tables, first_key, first_match, keys, Goals, same_token, the_mark, fixed, lines, a_member, a_line, a_control, a_field, a_table, after_struct, the_deparser, the_egress, the_ingress, the_parser, the_meta, field_ways, table_ways, first_key_ways, key_ways, header_ways, match_ways, next_ways, takes}
use Rattle.p4_texts.specs.Written.{HeaderText, no_keys, some_keys, ControlText, RestText, field_then, each_then, member_then, table_then, control_then, extract_then, emit_then, Lines, deparser_head, egress_begins, egress_head, ingress_begins, ingress_head, parser_head, text_end}
use Rattle.p4_texts.proofs.Spells.{Trees, spells, split, fixed_spells}
use Rattle.p4_texts.proofs.Sound.{Leads, by_ways, only, exactly_leads, expr_leads, after_leads, opened_leads, stmts_leads, or_else_leads, else_leads, first_leads, dotted_leads, meta_leads, header_leads}

field_word : Leads fields (a_name (codes "bit")) a_field
field_word = λ ts. record { tree = record { width = ts.1.0; name = ts.1.1.1.0 } ∷ ts.1.1.1.1.1.0; is = λ ks. refl }

fields_leads : (k : Kind) (more : Goals) → takes fields k ≡ Some more → Leads fields k more
fields_leads (a_name x) more h = by_ways fields a_name field_ways x more (field_word, tt) h
fields_leads (mark m) more h = by_ways fields mark next_ways m more (λ ts. record { tree = []; is = λ ks. refl }, tt) h
fields_leads k more h = absurd cc

-- lines that the lists of goals stand for
record Listed {A : Type 0} (one : A → List Kind → List Kind) (n : ℕ) (gs : Goals) (ts : Trees gs) : Type 0 where
  items : List A
  many : length items ≡ n
  is : (ks : List Kind) → spells gs ts ks ≡ each_then one items ks

members_of : (n : ℕ) (ts : Trees (lines n a_member)) → Listed member_then n (lines n a_member) ts
members_of zero ts = record { items = []; many = refl; is = λ ks. refl }
members_of (suc n) ts =
    let l = members_of n ts.1.1.1 in
    record { items = record { header = ts.0; name = ts.1.0 } ∷ l.items; many = ap suc l.many; is = λ ks. ap (λ z. a_name ts.0 ∷ a_name ts.1.0 ∷ mark (codes ";") ∷ z) (l.is ks) }

extracts_of : (n : ℕ) (ts : Trees (lines n (a_line (codes "b.extract(h.")))) → Listed extract_then n (lines n (a_line (codes "b.extract(h."))) ts
extracts_of zero ts = record { items = []; many = refl; is = λ ks. refl }
extracts_of (suc n) ts =
    let l = extracts_of n ts.1.1.1.1.1.1.1.1.1 in
    let x = ts.1.1.1.1.1.1.0 in
    record { items = x ∷ l.items; many = ap suc l.many; is = λ ks. ap (λ z. extract_then x z) (l.is ks) }

emits_of : (n : ℕ) (ts : Trees (lines n (a_line (codes "b.emit(h.")))) → Listed emit_then n (lines n (a_line (codes "b.emit(h."))) ts
emits_of zero ts = record { items = []; many = refl; is = λ ks. refl }
emits_of (suc n) ts =
    let l = emits_of n ts.1.1.1.1.1.1.1.1.1 in
    let x = ts.1.1.1.1.1.1.0 in
    record { items = x ∷ l.items; many = ap suc l.many; is = λ ks. ap (λ z. emit_then x z) (l.is ks) }

-- a control, and what follows
record Controls (begin : List ℕ) (gs : Goals) (ts : Trees (a_control begin gs)) : Type 0 where
  control : ControlText
  others : Trees gs
  is : (ks : List Kind) → spells (a_control begin gs) ts ks ≡ control_then begin control (spells gs others ks)

control_of : (begin : List ℕ) (gs : Goals) (ts : Trees (a_control begin gs)) → Controls begin gs ts
control_of begin gs ts =
    let after = stmts ∷ the_mark (codes "}") ∷ gs in
    let s = split (fixed (said begin)) after ts.1.1 in
    record {
      control = record { tables = ts.0; body = s.second.0 };
      others = s.second.1.1;
      is = λ ks. ap (λ z. each_then table_then ts.0 (a_name (codes "apply") ∷ mark (codes "{") ∷ z)) (s.is ks ∙ fixed_spells (said begin) s.first (spells after s.second ks));
    }

-- ---- the rest of a text

abbrev emitted : List (List ℕ) → List Kind → List Kind
emitted xs ks = said deparser_head ++ (each_then emit_then xs (said text_end ++ (finish ∷ ks)))

record Deparsers (n : ℕ) (ts : Trees (the_deparser n)) : Type 0 where
  emits : List (List ℕ)
  many : length emits ≡ n
  is : (ks : List Kind) → spells (the_deparser n) ts ks ≡ emitted emits ks

deparser_of : (n : ℕ) (ts : Trees (the_deparser n)) → Deparsers n ts
deparser_of n ts =
    let ends = fixed (said text_end) ++ (exactly finish ∷ []) in
    let a = split (fixed (said deparser_head)) (lines n (a_line (codes "b.emit(h.")) ++ ends) ts in
    let b = split (lines n (a_line (codes "b.emit(h."))) ends a.second in
    let c = split (fixed (said text_end)) (exactly finish ∷ []) b.second in
    let l = emits_of n b.first in
    record {
      emits = l.items;
      many = l.many;
      is = λ ks. a.is ks
          ∙ fixed_spells (said deparser_head) a.first (spells (lines n (a_line (codes "b.emit(h.")) ++ ends) a.second ks)
          ∙ ap (λ z. said deparser_head ++ z) (b.is ks ∙ l.is (spells ends b.second ks)
          ∙ ap (λ z. each_then emit_then l.items z) (c.is ks ∙ fixed_spells (said text_end) c.first (spells (exactly finish ∷ []) c.second ks)));
    }

record Egresses (n : ℕ) (ts : Trees (the_egress n)) : Type 0 where
  egress : ControlText
  emits : List (List ℕ)
  many : length emits ≡ n
  is : (ks : List Kind) → spells (the_egress n) ts ks ≡ said egress_head ++ (control_then egress_begins egress (emitted emits ks))

egress_of : (n : ℕ) (ts : Trees (the_egress n)) → Egresses n ts
egress_of n ts =
    let after = a_control egress_begins (the_deparser n) in
    let a = split (fixed (said egress_head)) after ts in
    let c = control_of egress_begins (the_deparser n) a.second in
    let d = deparser_of n c.others in
    record {
      egress = c.control;
      emits = d.emits;
      many = d.many;
      is = λ ks. a.is ks ∙ fixed_spells (said egress_head) a.first (spells after a.second ks)
          ∙ ap (λ z. said egress_head ++ z) (c.is ks ∙ ap (λ z. control_then egress_begins c.control z) (d.is ks));
    }

record Ingresses (n : ℕ) (ts : Trees (the_ingress n)) : Type 0 where
  ingress : ControlText
  egress : ControlText
  emits : List (List ℕ)
  many : length emits ≡ n
  is : (ks : List Kind) → spells (the_ingress n) ts ks ≡ said ingress_head ++ (control_then ingress_begins ingress (said egress_head ++ (control_then egress_begins egress (emitted emits ks))))

ingress_of : (n : ℕ) (ts : Trees (the_ingress n)) → Ingresses n ts
ingress_of n ts =
    let after = a_control ingress_begins (the_egress n) in
    let a = split (fixed (said ingress_head)) after ts in
    let c = control_of ingress_begins (the_egress n) a.second in
    let d = egress_of n c.others in
    record {
      ingress = c.control;
      egress = d.egress;
      emits = d.emits;
      many = d.many;
      is = λ ks. a.is ks ∙ fixed_spells (said ingress_head) a.first (spells after a.second ks)
          ∙ ap (λ z. said ingress_head ++ z) (c.is ks ∙ ap (λ z. control_then ingress_begins c.control z) (d.is ks));
    }

struct_makes : (n : ℕ) → Leads (headers n) (a_name (codes "struct")) (after_struct n)
struct_makes n = λ ts.
    let a = split (fixed (said (codes "Headers {"))) (lines n a_member ++ the_meta n) ts in
    let b = split (lines n a_member) (the_meta n) a.second in
    let ms = members_of n b.first in
    let c = split (fixed (said (codes "} struct Meta {"))) (fields ∷ the_parser n) b.second in
    let d = split (fixed (said parser_head)) (lines n (a_line (codes "b.extract(h.")) ++ the_ingress n) c.second.1 in
    let e = split (lines n (a_line (codes "b.extract(h."))) (the_ingress n) d.second in
    let xs = extracts_of n e.first in
    let i = ingress_of n e.second in
    let rest : RestText = record { members = ms.items; meta = c.second.0; extracts = xs.items; ingress = i.ingress; egress = i.egress; emits = i.emits } in
    let same : n ≡ length {A = HeaderText} [] + n = omega arith in
    record {
      tree = record { headers = []; rest = rest; lines = record { members = ms.many ∙ same; extracts = xs.many ∙ same; emits = i.many ∙ same } };
      is = λ ks. ap (λ z. a_name (codes "struct") ∷ z) (sym (a.is ks
          ∙ fixed_spells (said (codes "Headers {")) a.first (spells (lines n a_member ++ the_meta n) a.second ks)
          ∙ ap (λ z. said (codes "Headers {") ++ z) (b.is ks ∙ ms.is (spells (the_meta n) b.second ks)
          ∙ ap (λ z. each_then member_then ms.items z) (c.is ks
          ∙ fixed_spells (said (codes "} struct Meta {")) c.first (spells (fields ∷ the_parser n) c.second ks)
          ∙ ap (λ z. said (codes "} struct Meta {") ++ (each_then field_then c.second.0 (mark (codes "}") ∷ z))) (d.is ks
          ∙ fixed_spells (said parser_head) d.first (spells (lines n (a_line (codes "b.extract(h.")) ++ the_ingress n) d.second ks)
          ∙ ap (λ z. said parser_head ++ z) (e.is ks ∙ xs.is (spells (the_ingress n) e.second ks)
          ∙ ap (λ z. each_then extract_then xs.items z) (i.is ks)))))));
    }

header_makes : (n : ℕ) → Leads (headers n) (a_name (codes "header")) (any_name ∷ the_mark (codes "{") ∷ fields ∷ headers (suc n) ∷ [])
header_makes n = λ ts.
    let t = ts.1.1.1.0 in
    let h : HeaderText = record { name = ts.0; fields = ts.1.1.0 } in
    let e : length t.headers + suc n ≡ length (h ∷ t.headers) + n = omega arith in
    record { tree = record { headers = h ∷ t.headers; rest = t.rest; lines = subst (λ m. Lines m t.rest) e t.lines }; is = λ ks. refl }

headers_leads : (n : ℕ) (k : Kind) (more : Goals) → takes (headers n) k ≡ Some more → Leads (headers n) k more
headers_leads n (a_name x) more h = by_ways (headers n) a_name (header_ways n) x more (header_makes n, (struct_makes n, tt)) h
headers_leads n k more h = absurd cc

-- ---- tables

table_makes : Leads tables (a_name (codes "action")) a_table
table_makes = λ ts. record {
  tree = record {
    action = ts.0;
    width = ts.1.1.1.1.0;
    result = ts.1.1.1.1.1.1.1.1.1.1.1.0;
    table = ts.1.1.1.1.1.1.1.1.1.1.1.1.1.1.1.1.1.0;
    keys = ts.1.1.1.1.1.1.1.1.1.1.1.1.1.1.1.1.1.1.1.1.1.1.0;
    actions = ts.1.1.1.1.1.1.1.1.1.1.1.1.1.1.1.1.1.1.1.1.1.1.1.1.1.1.0;
    default_action = ts.1.1.1.1.1.1.1.1.1.1.1.1.1.1.1.1.1.1.1.1.1.1.1.1.1.1.1.1.1.1.1.0;
    default_width = ts.1.1.1.1.1.1.1.1.1.1.1.1.1.1.1.1.1.1.1.1.1.1.1.1.1.1.1.1.1.1.1.1.1.0.width;
    default = ts.1.1.1.1.1.1.1.1.1.1.1.1.1.1.1.1.1.1.1.1.1.1.1.1.1.1.1.1.1.1.1.1.1.0.n;
  } ∷ ts.1.1.1.1.1.1.1.1.1.1.1.1.1.1.1.1.1.1.1.1.1.1.1.1.1.1.1.1.1.1.1.1.1.1.1.1.1.0;
  is = λ ks. refl;
}

tables_leads : (k : Kind) (more : Goals) → takes tables k ≡ Some more → Leads tables k more
tables_leads (a_name x) more h = by_ways tables a_name table_ways x more (table_makes, (λ ts. record { tree = []; is = λ ks. refl }, tt)) h
tables_leads k more h = absurd cc

first_key_leads : (k : Kind) (more : Goals) → takes first_key k ≡ Some more → Leads first_key k more
first_key_leads (a_name x) more h = by_ways first_key a_name first_key_ways x more (λ ts. record { tree = some_keys ts.1.1.1.0.exact ts.1.0 ts.1.1.1.0.names; is = λ ks. refl }, tt) h
first_key_leads (mark m) more h = by_ways first_key mark next_ways m more (λ ts. record { tree = no_keys; is = λ ks. refl }, tt) h
first_key_leads k more h = absurd cc

match_leads : (k : Kind) (more : Goals) → takes first_match k ≡ Some more → Leads first_match k more
match_leads (a_name x) more h = by_ways first_match a_name match_ways x more
    (λ ts. record { tree = record { exact = true; names = ts.1.0 }; is = λ ks. refl }, (λ ts. record { tree = record { exact = false; names = ts.1.0 }; is = λ ks. refl }, tt)) h
match_leads k more h = absurd cc

keys_leads : (b : Bool) (k : Kind) (more : Goals) → takes (keys b) k ≡ Some more → Leads (keys b) k more
keys_leads b (a_name x) more h = by_ways (keys b) a_name (key_ways b) x more (λ ts. record { tree = ts.1.0 ∷ ts.1.1.1.1.1.0; is = λ ks. refl }, tt) h
keys_leads b (mark m) more h = by_ways (keys b) mark next_ways m more (λ ts. record { tree = []; is = λ ks. refl }, tt) h
keys_leads b k more h = absurd cc

-- ---- any token

name_leads : (k : Kind) (more : Goals) → takes any_name k ≡ Some more → Leads any_name k more
name_leads (a_name x) more h = only any_name (a_name x) [] more h (λ ts. record { tree = x; is = λ ks. refl })
name_leads k more h = absurd cc

plain_leads : (k : Kind) (more : Goals) → takes any_plain k ≡ Some more → Leads any_plain k more
plain_leads (plain n) more h = only any_plain (plain n) [] more h (λ ts. record { tree = n; is = λ ks. refl })
plain_leads k more h = absurd cc

literal_leads : (k : Kind) (more : Goals) → takes any_literal k ≡ Some more → Leads any_literal k more
literal_leads (literal w n) more h = only any_literal (literal w n) [] more h (λ ts. record { tree = record { width = w; n = n }; is = λ ks. refl })
literal_leads k more h = absurd cc

pub goal_leads : (g : Goal) (k : Kind) (more : Goals) → takes g k ≡ Some more → Leads g k more
goal_leads (exactly j) k more h = exactly_leads j k more (same_token j k) refl h
goal_leads any_name k more h = name_leads k more h
goal_leads any_plain k more h = plain_leads k more h
goal_leads any_literal k more h = literal_leads k more h
goal_leads (an_expr f) k more h = expr_leads f k more h
goal_leads (after_expr f) k more h = after_leads f k more h
goal_leads opened k more h = opened_leads k more h
goal_leads stmts k more h = stmts_leads k more h
goal_leads stmts_or_else k more h = or_else_leads k more h
goal_leads after_else k more h = else_leads k more h
goal_leads (after_first x) k more h = first_leads x k more h
goal_leads (dotted x) k more h = dotted_leads x k more h
goal_leads (after_meta y) k more h = meta_leads y k more h
goal_leads (after_header y) k more h = header_leads y k more h
goal_leads fields k more h = fields_leads k more h
goal_leads (headers n) k more h = headers_leads n k more h
goal_leads tables k more h = tables_leads k more h
goal_leads first_key k more h = first_key_leads k more h
goal_leads first_match k more h = match_leads k more h
goal_leads (keys b) k more h = keys_leads b k more h
