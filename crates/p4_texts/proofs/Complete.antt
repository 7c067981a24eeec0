-- The tokens of a tree are taken by its goals.
use Rattle.std.specs.Prelude.{◌≡◌, ℕ, zero, suc, ◌+◌, Bool, true, false, List, [], ◌∷◌, ◌++◌, length, None, codes, refl}
use Rattle.std.proofs.Common.{sym, ◌∙◌, ap, arith, append-nil}
use Rattle.std.proofs.lemmas.Bool.{eq-eqb}
use Rattle.cocoon_num.specs.Names.{same_name}
use Rattle.cocoon_num.specs.Values.{flip, not_}
use Rattle.cocoon_num.specs.Tokens.{Kind, a_name, keyword, plain, literal, mark, finish}
use Rattle.p4_ir.specs.P4Text.{architecture, binary_mark, said, unary_mark}
use Rattle.p4_ir.specs.Program.{binary_of}
use Rattle.p4_ir.specs.declared.program.P4Binary.{P4Binary}
use Rattle.p4_ir.specs.declared.program.P4Binary.TheVariants.{Add}
use Rattle.p4_texts.specs.Machine.{Follow, to_semicolon, to_close, to_operator, to_colon, Goal, exactly, an_expr, after_expr, opened, stmts, stmts_or_else, dotted, fields, headers, tables, first_key, keys, Goals, same_token, the_mark, fixed, lines, a_member, a_line, a_control, after_struct, the_deparser, the_egress, the_ingress, the_parser, the_meta, stuck, whole_text}
use Rattle.p4_texts.specs.Written.{ExprText, w_lit, w_truth, w_meta, w_field, w_port, w_rid, w_unary, w_binary, w_slice, w_pick, StmtText, w_set_meta, w_set_field, w_apply, w_if, w_if_else, w_verdict, w_egress_port, w_group, w_return, BlockText, w_done, w_then, FieldText, HeaderText, MemberText, KeysText, no_keys, some_keys, TableText, ControlText, RestText, ProgramText, expr_then, stmt_then, block_then, condition_then, field_then, each_then, header_then, member_then, key_then, keys_then, table_then, control_then, extract_then, emit_then, deparser_then, egress_then, ingress_then, parser_then, meta_then, rest_then, text_tokens, Lines, deparser_head, egress_begins, egress_head, ingress_begins, ingress_head, parser_head, text_end}

-- ---- fixed tokens

pub same : (x : List ℕ) → same_name x x ≡ true
same [] = refl
same (b ∷ bs) = rw (eq-eqb b b refl) (same bs)

pub same_kind : (k : Kind) → same_token k k ≡ true
same_kind (a_name x) = same x
same_kind (keyword x) = same x
same_kind (plain n) = eq-eqb n n refl
same_kind (literal w n) = rw (eq-eqb w w refl) (eq-eqb n n refl)
same_kind (mark x) = same x
same_kind finish = refl

pub one_pass : (k : Kind) (gs : Goals) (rest : List Kind) → stuck (exactly k ∷ gs) (k ∷ rest) ≡ stuck gs rest
one_pass k gs rest = rw (same_kind k) refl

pub fixed_pass : (ks : List Kind) (gs : Goals) (rest : List Kind) → stuck (fixed ks ++ gs) (ks ++ rest) ≡ stuck gs rest
fixed_pass [] gs rest = refl
fixed_pass (k ∷ ks) gs rest = one_pass k (fixed ks ++ gs) (ks ++ rest) ∙ fixed_pass ks gs rest

-- ---- expressions

-- an expression is taken where one may stand, and after a bracket
pub record Passes (e : ExprText) : Type 0 where
  pub alone : (f : Follow) (gs : Goals) (ks : List Kind) → stuck (an_expr f ∷ gs) (expr_then e ks) ≡ stuck (after_expr f ∷ gs) ks
  pub first : (gs : Goals) (ks : List Kind) → stuck (opened ∷ gs) (expr_then e ks) ≡ stuck (after_expr to_operator ∷ gs) ks

pub op_pass : (op : P4Binary) (gs : Goals) (ks : List Kind) → stuck (after_expr to_operator ∷ gs) (mark (binary_mark (binary_of op)) ∷ ks) ≡ stuck (an_expr to_close ∷ gs) ks
op_pass Add gs ks = refl
op_pass op gs ks = refl

-- what stands in brackets
unary_pass : (op : _) (a : ExprText) → Passes a → (gs : Goals) (ks : List Kind) → stuck (opened ∷ gs) (mark (unary_mark op) ∷ expr_then a (mark (codes ")") ∷ ks)) ≡ stuck gs ks
unary_pass flip a p gs ks = p.alone to_close gs (mark (codes ")") ∷ ks)
unary_pass not_ a p gs ks = p.alone to_close gs (mark (codes ")") ∷ ks)

binary_pass : (op : P4Binary) (a b : ExprText) → Passes a → Passes b → (gs : Goals) (ks : List Kind)
    → stuck (opened ∷ gs) (expr_then a (mark (binary_mark (binary_of op)) ∷ expr_then b (mark (codes ")") ∷ ks))) ≡ stuck gs ks
binary_pass op a b p q gs ks = p.first gs _ ∙ op_pass op gs (expr_then b (mark (codes ")") ∷ ks)) ∙ q.alone to_close gs (mark (codes ")") ∷ ks)

pick_pass : (c a b : ExprText) → Passes c → Passes a → Passes b → (gs : Goals) (ks : List Kind)
    → stuck (opened ∷ gs) (expr_then c (mark (codes "?") ∷ expr_then a (mark (codes ":") ∷ expr_then b (mark (codes ")") ∷ ks)))) ≡ stuck gs ks
pick_pass c a b p q r gs ks = p.first gs _ ∙ q.alone to_colon (an_expr to_close ∷ gs) (mark (codes ":") ∷ expr_then b (mark (codes ")") ∷ ks)) ∙ r.alone to_close gs (mark (codes ")") ∷ ks)

pub passes : (e : ExprText) → Passes e
passes (w_lit w n) = record { alone = λ f gs ks. refl; first = λ gs ks. refl }
passes (w_truth true) = record { alone = λ f gs ks. refl; first = λ gs ks. refl }
passes (w_truth false) = record { alone = λ f gs ks. refl; first = λ gs ks. refl }
passes (w_meta x) = record { alone = λ f gs ks. refl; first = λ gs ks. refl }
passes (w_field h f) = record { alone = λ f gs ks. refl; first = λ gs ks. refl }
passes w_port = record { alone = λ f gs ks. refl; first = λ gs ks. refl }
passes w_rid = record { alone = λ f gs ks. refl; first = λ gs ks. refl }
passes (w_unary op a) = let p = passes a in record { alone = λ f gs ks. unary_pass op a p (after_expr f ∷ gs) ks; first = λ gs ks. unary_pass op a p (after_expr to_operator ∷ gs) ks }
passes (w_binary op a b) = let p = passes a in let q = passes b in record { alone = λ f gs ks. binary_pass op a b p q (after_expr f ∷ gs) ks; first = λ gs ks. binary_pass op a b p q (after_expr to_operator ∷ gs) ks }
passes (w_slice a high low) = let p = passes a in record { alone = λ f gs ks. p.alone f gs _; first = λ gs ks. p.first gs _ }
passes (w_pick c a b) = let p = passes c in let q = passes a in let r = passes b in record { alone = λ f gs ks. pick_pass c a b p q r (after_expr f ∷ gs) ks; first = λ gs ks. pick_pass c a b p q r (after_expr to_operator ∷ gs) ks }

-- ---- statements

-- what may come after a statement
abbrev pub next : StmtText → Goal
next (w_if e a) = stmts_or_else
next s = stmts

condition_pass : (e : ExprText) (gs : Goals) (ks : List Kind) → stuck (stmts ∷ gs) (condition_then e ks) ≡ stuck (stmts ∷ stmts_or_else ∷ gs) ks
condition_pass e gs ks = (passes e).alone to_close (the_mark (codes "{") ∷ stmts ∷ stmts_or_else ∷ gs) (mark (codes ")") ∷ mark (codes "{") ∷ ks)

value_pass : (e : ExprText) (gs : Goals) (ks : List Kind) → stuck (an_expr to_semicolon ∷ stmts ∷ gs) (expr_then e (mark (codes ";") ∷ ks)) ≡ stuck (stmts ∷ gs) ks
value_pass e gs ks = (passes e).alone to_semicolon (stmts ∷ gs) (mark (codes ";") ∷ ks)

-- a table may have any name
dot_applies : (b c : Bool) (x : List ℕ) (gs : Goals) (ks : List Kind) → same_name (codes "m") x ≡ b → same_name (codes "h") x ≡ c
    → stuck (dotted x ∷ gs) (a_name (codes "apply") ∷ mark (codes "(") ∷ mark (codes ")") ∷ mark (codes ";") ∷ ks) ≡ stuck (stmts ∷ gs) ks
dot_applies true c x gs ks p q = rw p refl
dot_applies false true x gs ks p q = rw (p, q) refl
dot_applies false false x gs ks p q = rw (p, q) refl

applies : (x : List ℕ) (gs : Goals) (ks : List Kind) → stuck (stmts ∷ gs) (stmt_then (w_apply x) ks) ≡ stuck (stmts ∷ gs) ks
applies x gs ks = dot_applies (same_name (codes "m") x) (same_name (codes "h") x) x gs ks refl refl

-- also that of `else`
else_applies : (b : Bool) (x : List ℕ) (gs : Goals) (ks : List Kind) → same_name (codes "else") x ≡ b
    → stuck (stmts_or_else ∷ gs) (stmt_then (w_apply x) ks) ≡ stuck (stmts ∷ gs) ks
else_applies true x gs ks e = rw e refl
else_applies false x gs ks e = rw e (applies x gs ks)

-- the rest of a block after a statement
after_next : (s : StmtText) (b : BlockText) (gs : Goals) (ks : List Kind)
    → stuck (stmts ∷ gs) (block_then b (mark (codes "}") ∷ ks)) ≡ stuck gs ks
    → stuck (stmts_or_else ∷ gs) (block_then b (mark (codes "}") ∷ ks)) ≡ stuck gs ks
    → stuck (next s ∷ gs) (block_then b (mark (codes "}") ∷ ks)) ≡ stuck gs ks
after_next (w_if e a) b gs ks p q = q
after_next s b gs ks p q = p

mutual
  pub stmt_pass : (s : StmtText) (gs : Goals) (ks : List Kind) → stuck (stmts ∷ gs) (stmt_then s ks) ≡ stuck (next s ∷ gs) ks
  stmt_pass (w_set_meta x e) gs ks = value_pass e gs ks
  stmt_pass (w_set_field h f e) gs ks = value_pass e gs ks
  stmt_pass (w_apply x) gs ks = applies x gs ks
  stmt_pass (w_if e a) gs ks = condition_pass e gs _ ∙ block_pass a (stmts_or_else ∷ gs) ks
  stmt_pass (w_if_else e a b) gs ks = condition_pass e gs _ ∙ block_pass a (stmts_or_else ∷ gs) _ ∙ block_pass b (stmts ∷ gs) ks
  stmt_pass (w_verdict w n) gs ks = refl
  stmt_pass (w_egress_port e) gs ks = value_pass e gs ks
  stmt_pass (w_group e) gs ks = value_pass e gs ks
  stmt_pass w_return gs ks = refl

  pub or_else_pass : (s : StmtText) (gs : Goals) (ks : List Kind) → stuck (stmts_or_else ∷ gs) (stmt_then s ks) ≡ stuck (next s ∷ gs) ks
  or_else_pass (w_set_meta x e) gs ks = value_pass e gs ks
  or_else_pass (w_set_field h f e) gs ks = value_pass e gs ks
  or_else_pass (w_apply x) gs ks = else_applies (same_name (codes "else") x) x gs ks refl
  or_else_pass (w_if e a) gs ks = condition_pass e gs _ ∙ block_pass a (stmts_or_else ∷ gs) ks
  or_else_pass (w_if_else e a b) gs ks = condition_pass e gs _ ∙ block_pass a (stmts_or_else ∷ gs) _ ∙ block_pass b (stmts ∷ gs) ks
  or_else_pass (w_verdict w n) gs ks = refl
  or_else_pass (w_egress_port e) gs ks = value_pass e gs ks
  or_else_pass (w_group e) gs ks = value_pass e gs ks
  or_else_pass w_return gs ks = refl

  -- a block where it may begin with any statement, and after an `if`
  pub block_pass : (b : BlockText) (gs : Goals) (ks : List Kind) → stuck (stmts ∷ gs) (block_then b (mark (codes "}") ∷ ks)) ≡ stuck gs ks
  block_pass w_done gs ks = refl
  block_pass (w_then s b) gs ks = stmt_pass s gs _ ∙ after_next s b gs ks (block_pass b gs ks) (block_or_else b gs ks)

  pub block_or_else : (b : BlockText) (gs : Goals) (ks : List Kind) → stuck (stmts_or_else ∷ gs) (block_then b (mark (codes "}") ∷ ks)) ≡ stuck gs ks
  block_or_else w_done gs ks = refl
  block_or_else (w_then s b) gs ks = or_else_pass s gs _ ∙ after_next s b gs ks (block_pass b gs ks) (block_or_else b gs ks)

-- ---- declarations

pub fields_pass : (fs : List FieldText) (gs : Goals) (ks : List Kind) → stuck (fields ∷ gs) (each_then field_then fs (mark (codes "}") ∷ ks)) ≡ stuck gs ks
fields_pass [] gs ks = refl
fields_pass (f ∷ fs) gs ks = fields_pass fs gs ks

pub headers_pass : (hs : List HeaderText) (n : ℕ) (gs : Goals) (ks : List Kind) → stuck (headers n ∷ gs) (each_then header_then hs ks) ≡ stuck (headers (length hs + n) ∷ gs) ks
headers_pass [] n gs ks = let e : n ≡ length {A = HeaderText} [] + n = omega arith in ap (λ m. stuck (headers m ∷ gs) (each_then header_then [] ks)) e
headers_pass (h ∷ hs) n gs ks =
    let e : length hs + suc n ≡ suc (length hs) + n = omega arith in
    fields_pass h.fields (headers (suc n) ∷ gs) _ ∙ headers_pass hs (suc n) gs ks ∙ ap (λ m. stuck (headers m ∷ gs) ks) e

pub members_pass : (ms : List MemberText) (n : ℕ) (gs : Goals) (ks : List Kind) → length ms ≡ n → stuck (lines n a_member ++ gs) (each_then member_then ms ks) ≡ stuck gs ks
members_pass [] zero gs ks e = refl
members_pass [] (suc n) gs ks e = absurd cc
members_pass (m ∷ ms) zero gs ks e = absurd cc
members_pass (m ∷ ms) (suc n) gs ks e = members_pass ms n gs ks (let f : suc (length ms) ≡ suc n = e in cc)

pub extracts_pass : (xs : List (List ℕ)) (n : ℕ) (gs : Goals) (ks : List Kind) → length xs ≡ n → stuck (lines n (a_line (codes "b.extract(h.")) ++ gs) (each_then extract_then xs ks) ≡ stuck gs ks
extracts_pass [] zero gs ks e = refl
extracts_pass [] (suc n) gs ks e = absurd cc
extracts_pass (x ∷ xs) zero gs ks e = absurd cc
extracts_pass (x ∷ xs) (suc n) gs ks e = extracts_pass xs n gs ks (let f : suc (length xs) ≡ suc n = e in cc)

pub emits_pass : (xs : List (List ℕ)) (n : ℕ) (gs : Goals) (ks : List Kind) → length xs ≡ n → stuck (lines n (a_line (codes "b.emit(h.")) ++ gs) (each_then emit_then xs ks) ≡ stuck gs ks
emits_pass [] zero gs ks e = refl
emits_pass [] (suc n) gs ks e = absurd cc
emits_pass (x ∷ xs) zero gs ks e = absurd cc
emits_pass (x ∷ xs) (suc n) gs ks e = emits_pass xs n gs ks (let f : suc (length xs) ≡ suc n = e in cc)

-- ---- tables

more_keys_pass : (b : Bool) (xs : List (List ℕ)) (gs : Goals) (ks : List Kind) → stuck (keys b ∷ gs) (each_then (key_then b) xs (mark (codes "}") ∷ ks)) ≡ stuck gs ks
more_keys_pass true [] gs ks = refl
more_keys_pass false [] gs ks = refl
more_keys_pass true (x ∷ xs) gs ks = more_keys_pass true xs gs ks
more_keys_pass false (x ∷ xs) gs ks = more_keys_pass false xs gs ks

pub keys_pass : (k : KeysText) (gs : Goals) (ks : List Kind) → stuck (first_key ∷ gs) (keys_then k (mark (codes "}") ∷ ks)) ≡ stuck gs ks
keys_pass no_keys gs ks = refl
keys_pass (some_keys true x xs) gs ks = more_keys_pass true xs gs ks
keys_pass (some_keys false x xs) gs ks = more_keys_pass false xs gs ks

pub tables_pass : (ts : List TableText) (gs : Goals) (ks : List Kind) → stuck (tables ∷ gs) (each_then table_then ts (a_name (codes "apply") ∷ ks)) ≡ stuck gs ks
tables_pass [] gs ks = refl
tables_pass (t ∷ ts) gs ks = keys_pass t.keys _ _ ∙ tables_pass ts gs ks

-- ---- a whole text

control_pass : (begin : List ℕ) (c : ControlText) (gs : Goals) (ks : List Kind) → stuck (a_control begin gs) (control_then begin c ks) ≡ stuck gs ks
control_pass begin c gs ks =
    let inside = mark (codes "}") ∷ mark (codes "}") ∷ ks in
    let after = stmts ∷ the_mark (codes "}") ∷ gs in
    tables_pass c.tables (the_mark (codes "{") ∷ (fixed (said begin) ++ after)) (mark (codes "{") ∷ (said begin ++ block_then c.body inside))
    ∙ fixed_pass (said begin) after (block_then c.body inside)
    ∙ block_pass c.body (the_mark (codes "}") ∷ gs) (mark (codes "}") ∷ ks)

deparser_pass : (n : ℕ) (t : RestText) → length t.emits ≡ n → (ks : List Kind) → stuck (the_deparser n) (deparser_then t ks) ≡ stuck [] ks
deparser_pass n t e ks =
    let end = said text_end ++ (finish ∷ ks) in
    let ends = fixed (said text_end) ++ (exactly finish ∷ []) in
    fixed_pass (said deparser_head) (lines n (a_line (codes "b.emit(h.")) ++ ends) (each_then emit_then t.emits end)
    ∙ emits_pass t.emits n ends end e
    ∙ fixed_pass (said text_end) (exactly finish ∷ []) (finish ∷ ks)

egress_pass : (n : ℕ) (t : RestText) → length t.emits ≡ n → (ks : List Kind) → stuck (the_egress n) (egress_then t ks) ≡ stuck [] ks
egress_pass n t e ks =
    fixed_pass (said egress_head) (a_control egress_begins (the_deparser n)) (control_then egress_begins t.egress (deparser_then t ks))
    ∙ control_pass egress_begins t.egress (the_deparser n) (deparser_then t ks)
    ∙ deparser_pass n t e ks

ingress_pass : (n : ℕ) (t : RestText) → length t.emits ≡ n → (ks : List Kind) → stuck (the_ingress n) (ingress_then t ks) ≡ stuck [] ks
ingress_pass n t e ks =
    fixed_pass (said ingress_head) (a_control ingress_begins (the_egress n)) (control_then ingress_begins t.ingress (egress_then t ks))
    ∙ control_pass ingress_begins t.ingress (the_egress n) (egress_then t ks)
    ∙ egress_pass n t e ks

parser_pass : (n : ℕ) (t : RestText) → Lines n t → (ks : List Kind) → stuck (the_parser n) (parser_then t ks) ≡ stuck [] ks
parser_pass n t l ks =
    fixed_pass (said parser_head) (lines n (a_line (codes "b.extract(h.")) ++ the_ingress n) (each_then extract_then t.extracts (ingress_then t ks))
    ∙ extracts_pass t.extracts n (the_ingress n) (ingress_then t ks) l.extracts
    ∙ ingress_pass n t l.emits ks

-- what follows the headers
pub rest_pass : (n : ℕ) (t : RestText) → Lines n t → (ks : List Kind) → stuck (headers n ∷ []) (rest_then t ks) ≡ stuck [] ks
rest_pass n t l ks =
    let after_members = meta_then t ks in
    let after_meta = mark (codes "}") ∷ parser_then t ks in
    ap (λ gs. stuck gs (said (codes "Headers {") ++ (each_then member_then t.members after_members))) (append-nil (after_struct n))
    ∙ fixed_pass (said (codes "Headers {")) (lines n a_member ++ the_meta n) (each_then member_then t.members after_members)
    ∙ members_pass t.members n (the_meta n) after_members l.members
    ∙ fixed_pass (said (codes "} struct Meta {")) (fields ∷ the_parser n) (each_then field_then t.meta after_meta)
    ∙ fields_pass t.meta (the_parser n) (parser_then t ks)
    ∙ parser_pass n t l ks

pub text_pass : (t : ProgramText) → Lines (length t.headers) t.rest → stuck whole_text (text_tokens t) ≡ None
text_pass t l =
    let n : length t.headers ≡ length t.headers + 0 = omega arith in
    fixed_pass architecture (headers 0 ∷ []) (each_then header_then t.headers (rest_then t.rest []))
    ∙ headers_pass t.headers 0 [] (rest_then t.rest [])
    ∙ ap (λ m. stuck (headers m ∷ []) (rest_then t.rest [])) (sym n) ∙ rest_pass (length t.headers) t.rest l []
