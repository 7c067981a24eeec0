-- Declarations are known from their tokens and what follows, and so is a whole text.
use Rattle.std.specs.Prelude.{◌≡◌, ℕ, Bool, true, false, List, [], ◌∷◌, ◌++◌, codes, drop, refl}
use Rattle.std.proofs.Common.{sym, ◌∙◌, ap, ap₂}
use Rattle.std.proofs.lemmas.List.{append_cancel_left}
use Rattle.cocoon_num.specs.Names.{same_name}
use Rattle.cocoon_num.specs.Tokens.{Kind, a_name, mark, finish}
use Rattle.p4_ir.specs.P4Text.{architecture, match_kind, said}
use Rattle.p4_texts.specs.Written.{BlockText, FieldText, HeaderText, MemberText, KeysText, no_keys, some_keys, TableText, ControlText, RestText, ProgramText, control_then, deparser_head, deparser_then, each_then, egress_begins, egress_head, egress_then, emit_then, extract_then, field_then, header_then, ingress_begins, ingress_head, ingress_then, key_then, keys_then, member_then, meta_then, parser_head, parser_then, rest_then, table_then, text_end, text_tokens, P4TextAt}
use Rattle.p4_read.proofs.Tokens.{Known, same_each, first_plain, first_width, first_number, name_at}
use Rattle.p4_read.proofs.Statements.{same_block}

abbrev plain_at : ℕ → List Kind → ℕ
plain_at n ks = first_plain (drop n ks)

-- ---- where lists end

abbrev at_mark : List Kind → Bool
at_mark (mark m ∷ ks) = true
at_mark _ = false

abbrev at_word : List ℕ → List Kind → Bool
at_word w (a_name x ∷ ks) = same_name x w
at_word w _ = false

-- ---- fields and headers

abbrev field_with : ℕ → List ℕ → FieldText
field_with width name = record { width = width; name = name }

same_field : Known field_then
same_field f g ks ls h = (ap₂ field_with (ap (plain_at 2) h) (ap (name_at 4) h), ap (drop 6) h)

same_fields : (fs gs : List FieldText) (ks ls : List Kind) → each_then field_then fs (mark (codes "}") ∷ ks) ≡ each_then field_then gs (mark (codes "}") ∷ ls) → (fs ≡ gs) × (ks ≡ ls)
same_fields fs gs ks ls h = let r = same_each field_then at_mark same_field (λ f ms. refl) fs gs _ _ refl refl h in (r.0, ap (drop 1) r.1)

abbrev header_with : List ℕ → List FieldText → HeaderText
header_with name fields = record { name = name; fields = fields }

same_header : Known header_then
same_header x y ks ls h = let r = same_fields x.fields y.fields ks ls (ap (drop 3) h) in (ap₂ header_with (ap (name_at 1) h) r.0, r.1)

-- ---- lines with names

abbrev member_with : List ℕ → List ℕ → MemberText
member_with header name = record { header = header; name = name }

same_member : Known member_then
same_member x y ks ls h = (ap₂ member_with (ap (name_at 0) h) (ap (name_at 1) h), ap (drop 3) h)

same_extract : Known extract_then
same_extract x y ks ls h = let r = append_cancel_left (said (codes "b.extract(h.")) _ _ h in (ap (name_at 0) r, ap (drop 3) r)

same_emit : Known emit_then
same_emit x y ks ls h = let r = append_cancel_left (said (codes "b.emit(h.")) _ _ h in (ap (name_at 0) r, ap (drop 3) r)

-- ---- tables

same_key : (exact : Bool) → Known (key_then exact)
same_key exact x y ks ls h = (ap (name_at 2) h, ap (drop 6) h)

abbrev is_exact : List Kind → Bool
is_exact (a_name x ∷ ks) = same_name x (codes "exact")
is_exact _ = false

exact_back : (b : Bool) (ks : List Kind) → is_exact (match_kind b ∷ ks) ≡ b
exact_back true ks = refl
exact_back false ks = refl

same_match : (b c : Bool) (ks ls : List Kind) → match_kind b ∷ ks ≡ match_kind c ∷ ls → b ≡ c
same_match b c ks ls h = sym (exact_back b ks) ∙ ap is_exact h ∙ exact_back c ls

same_keys : (j k : KeysText) (ks ls : List Kind) → keys_then j (mark (codes "}") ∷ ks) ≡ keys_then k (mark (codes "}") ∷ ls) → (j ≡ k) × (ks ≡ ls)
same_keys no_keys no_keys ks ls h = (refl, ap (drop 1) h)
same_keys no_keys (some_keys b y ys) ks ls h = let no : true ≡ false = ap at_mark h in absurd cc
same_keys (some_keys b x xs) no_keys ks ls h = let no : false ≡ true = ap at_mark h in absurd cc
same_keys (some_keys b x xs) (some_keys c y ys) ks ls h =
    let exact : b ≡ c = same_match b c _ _ (ap (drop 4) h) in
    let others = ap (drop 6) h ∙ ap (λ z. each_then (key_then z) ys (mark (codes "}") ∷ ls)) (sym exact) in
    let r = same_each (key_then b) at_mark (same_key b) (λ z ms. refl) xs ys _ _ refl refl others in
    (ap₂ (λ z zs. some_keys b z zs) (ap (name_at 2) h) r.0 ∙ ap (λ z. some_keys z y ys) exact, ap (drop 1) r.1)

-- what a table's tokens have before its keys, and after them
record FirstPart : Type 0 where
  action : List ℕ
  width : ℕ
  result : List ℕ
  table : List ℕ

record LastPart : Type 0 where
  actions : List ℕ
  default_action : List ℕ
  default_width : ℕ
  default : ℕ

abbrev table_with : FirstPart → KeysText → LastPart → TableText
table_with f k b = record {
  action = f.action;
  width = f.width;
  result = f.result;
  table = f.table;
  keys = k;
  actions = b.actions;
  default_action = b.default_action;
  default_width = b.default_width;
  default = b.default;
}

abbrev first_part_in : List Kind → FirstPart
first_part_in ks = record { action = name_at 1 ks; width = plain_at 5 ks; result = name_at 12 ks; table = name_at 18 ks }

abbrev last_part_in : List Kind → LastPart
last_part_in ks = record { actions = name_at 3 ks; default_action = name_at 8 ks; default_width = first_width (drop 10 ks); default = first_number (drop 10 ks) }

abbrev first_part : TableText → FirstPart
first_part t = record { action = t.action; width = t.width; result = t.result; table = t.table }

abbrev last_part : TableText → LastPart
last_part t = record { actions = t.actions; default_action = t.default_action; default_width = t.default_width; default = t.default }

same_table : Known table_then
same_table x y ks ls h =
    let r = same_keys x.keys y.keys _ _ (ap (drop 23) h) in
    let f : first_part x ≡ first_part y = ap first_part_in h in
    let b : last_part x ≡ last_part y = ap last_part_in r.1 in
    (ap₂ (λ f k. table_with f k (last_part x)) f r.0 ∙ ap (table_with (first_part y) y.keys) b, ap (drop 14) r.1)

-- ---- controls

abbrev control_with : List TableText → BlockText → ControlText
control_with tables body = record { tables = tables; body = body }

same_control : (begin : List ℕ) → Known (control_then begin)
same_control begin x y ks ls h =
    let r = same_each table_then (at_word (codes "apply")) same_table (λ t ms. refl) x.tables y.tables _ _ refl refl h in
    let body = append_cancel_left (said begin) _ _ (ap (drop 2) r.1) in
    let b = same_block x.body y.body _ _ body in
    (ap₂ control_with r.0 b.0, ap (drop 1) b.1)

-- ---- a whole text

same_deparser : (t u : RestText) (ks ls : List Kind) → deparser_then t ks ≡ deparser_then u ls → t.emits ≡ u.emits
same_deparser t u ks ls h =
    let end_t = said text_end ++ (finish ∷ ks) in
    let end_u = said text_end ++ (finish ∷ ls) in
    let lines = append_cancel_left (said deparser_head) (each_then emit_then t.emits end_t) (each_then emit_then u.emits end_u) h in
    (same_each emit_then at_mark same_emit (λ x ms. refl) t.emits u.emits end_t end_u refl refl lines).0

record SameControls (t u : RestText) : Type 0 where
  ingress : t.ingress ≡ u.ingress
  egress : t.egress ≡ u.egress
  emits : t.emits ≡ u.emits

same_controls : (t u : RestText) (ks ls : List Kind) → ingress_then t ks ≡ ingress_then u ls → SameControls t u
same_controls t u ks ls h =
    let in_t = control_then ingress_begins t.ingress (egress_then t ks) in
    let in_u = control_then ingress_begins u.ingress (egress_then u ls) in
    let i = same_control ingress_begins t.ingress u.ingress (egress_then t ks) (egress_then u ls) (append_cancel_left (said ingress_head) in_t in_u h) in
    let out_t = control_then egress_begins t.egress (deparser_then t ks) in
    let out_u = control_then egress_begins u.egress (deparser_then u ls) in
    let e = same_control egress_begins t.egress u.egress (deparser_then t ks) (deparser_then u ls) (append_cancel_left (said egress_head) out_t out_u i.1) in
    record { ingress = i.0; egress = e.0; emits = same_deparser t u ks ls e.1 }

record SameDeclared (t u : RestText) (ks ls : List Kind) : Type 0 where
  members : t.members ≡ u.members
  meta : t.meta ≡ u.meta
  extracts : t.extracts ≡ u.extracts
  others : ingress_then t ks ≡ ingress_then u ls

same_declared : (t u : RestText) (ks ls : List Kind) → rest_then t ks ≡ rest_then u ls → SameDeclared t u ks ls
same_declared t u ks ls h =
    let members_t = each_then member_then t.members (meta_then t ks) in
    let members_u = each_then member_then u.members (meta_then u ls) in
    let m = same_each member_then at_mark same_member (λ x ms. refl) t.members u.members (meta_then t ks) (meta_then u ls) refl refl (append_cancel_left (said (codes "struct Headers {")) members_t members_u h) in
    let meta_t = each_then field_then t.meta (mark (codes "}") ∷ parser_then t ks) in
    let meta_u = each_then field_then u.meta (mark (codes "}") ∷ parser_then u ls) in
    let f = same_fields t.meta u.meta (parser_then t ks) (parser_then u ls) (append_cancel_left (said (codes "} struct Meta {")) meta_t meta_u m.1) in
    let extracts_t = each_then extract_then t.extracts (ingress_then t ks) in
    let extracts_u = each_then extract_then u.extracts (ingress_then u ls) in
    let x = same_each extract_then (at_word (codes "transition")) same_extract (λ x ms. refl) t.extracts u.extracts (ingress_then t ks) (ingress_then u ls) refl refl (append_cancel_left (said parser_head) extracts_t extracts_u f.1) in
    record { members = m.0; meta = f.0; extracts = x.0; others = x.1 }

abbrev rest_with : List MemberText → List FieldText → List (List ℕ) → ControlText → ControlText → List (List ℕ) → RestText
rest_with members meta extracts ingress egress emits = record { members = members; meta = meta; extracts = extracts; ingress = ingress; egress = egress; emits = emits }

same_rest : (t u : RestText) → rest_then t [] ≡ rest_then u [] → t ≡ u
same_rest t u h =
    let d = same_declared t u [] [] h in
    let c = same_controls t u [] [] d.others in
    ap₂ (λ x y. rest_with x y t.extracts t.ingress t.egress t.emits) d.members d.meta
    ∙ ap₂ (λ x y. rest_with u.members u.meta x y t.egress t.emits) d.extracts c.ingress
    ∙ ap₂ (λ x y. rest_with u.members u.meta u.extracts u.ingress x y) c.egress c.emits

abbrev text_with : List HeaderText → RestText → ProgramText
text_with headers rest = record { headers = headers; rest = rest }

pub same_text : (t u : ProgramText) → text_tokens t ≡ text_tokens u → t ≡ u
same_text t u h =
    let headers_t = each_then header_then t.headers (rest_then t.rest []) in
    let headers_u = each_then header_then u.headers (rest_then u.rest []) in
    let x = same_each header_then (at_word (codes "struct")) same_header (λ x ms. refl) t.headers u.headers (rest_then t.rest []) (rest_then u.rest []) refl refl (append_cancel_left architecture headers_t headers_u h) in
    ap₂ text_with x.0 (same_rest t.rest u.rest x.1)

pub one_tree : (ks : List Kind) (t u : ProgramText) → P4TextAt ks t → P4TextAt ks u → t ≡ u
one_tree ks t u p q = same_text t u (sym p.tokens ∙ q.tokens)
