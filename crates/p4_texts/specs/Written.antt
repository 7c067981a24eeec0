-- Cited by the laws of `reader_laws` and of `program_laws`, and by the clauses of p4_parse.
-- P4 texts as they may be written: trees whose names are not yet looked up, one case for each production, and the
-- tokens that each has, before those that follow it. Any name stands where the grammar has one. It follows "The text"
-- in docs/FORMATS.md; the subset is one of P4-16. Optional headers, tags and versions of rows are absent.
use Rattle.std.specs.Prelude.{◌≡◌, ℕ, Bool, true, false, List, [], ◌∷◌, ◌++◌, length, codes}
use Rattle.cocoon_num.specs.Values.{UnaryOp}
use Rattle.cocoon_num.specs.Tokens.{Kind, a_name, plain, literal, mark, finish}
use Rattle.p4_ir.specs.P4Text.{architecture, binary_mark, match_kind, said, unary_mark}
use Rattle.p4_ir.specs.Program.{binary_of}
use Rattle.p4_ir.specs.declared.program.P4Binary.{P4Binary}

-- ---- trees

pub data ExprText : Type 0 where
  w_lit : (width n : ℕ) → ExprText
  w_truth : (b : Bool) → ExprText
  w_meta : (name : List ℕ) → ExprText
  w_field : (header field : List ℕ) → ExprText
  w_port w_rid : ExprText
  w_unary : (op : UnaryOp) (a : ExprText) → ExprText
  w_binary : (op : P4Binary) (a b : ExprText) → ExprText
  w_slice : (a : ExprText) (high low : ℕ) → ExprText
  w_pick : (c a b : ExprText) → ExprText

mutual
  pub data StmtText : Type 0 where
    w_set_meta : (name : List ℕ) (e : ExprText) → StmtText
    w_set_field : (header field : List ℕ) (e : ExprText) → StmtText
    w_apply : (table : List ℕ) → StmtText
    w_if : (e : ExprText) (first : BlockText) → StmtText
    w_if_else : (e : ExprText) (first second : BlockText) → StmtText
    w_verdict : (width n : ℕ) → StmtText
    w_egress_port : (e : ExprText) → StmtText
    w_group : (e : ExprText) → StmtText
    w_return : StmtText

  pub data BlockText : Type 0 where
    w_done : BlockText
    w_then : (first : StmtText) (rest : BlockText) → BlockText

-- a field of a header, or a meta field
pub record FieldText : Type 0 where
  pub width : ℕ
  pub name : List ℕ

pub record HeaderText : Type 0 where
  pub name : List ℕ
  pub fields : List FieldText

-- a line of `struct Headers`: the name of a header, and its own
pub record MemberText : Type 0 where
  pub header : List ℕ
  pub name : List ℕ

-- keys of one kind, or none
pub data KeysText : Type 0 where
  no_keys : KeysText
  some_keys : (exact : Bool) (first : List ℕ) (rest : List (List ℕ)) → KeysText

-- an action and its table
pub record TableText : Type 0 where
  pub action : List ℕ
  pub width : ℕ
  pub result : List ℕ
  pub table : List ℕ
  pub keys : KeysText
  pub actions : List ℕ
  pub default_action : List ℕ
  pub default_width : ℕ
  pub default : ℕ

pub record ControlText : Type 0 where
  pub tables : List TableText
  pub body : BlockText

-- what follows the headers, with the names that the lines of the parser and the deparser have
pub record RestText : Type 0 where
  pub members : List MemberText
  pub meta : List FieldText
  pub extracts : List (List ℕ)
  pub ingress : ControlText
  pub egress : ControlText
  pub emits : List (List ℕ)

pub record ProgramText : Type 0 where
  pub headers : List HeaderText
  pub rest : RestText

-- ---- expressions

abbrev pub expr_then : ExprText → List Kind → List Kind
expr_then (w_lit w n) ks = literal w n ∷ ks
expr_then (w_truth true) ks = a_name (codes "true") ∷ ks
expr_then (w_truth false) ks = a_name (codes "false") ∷ ks
expr_then (w_meta x) ks = a_name (codes "m") ∷ mark (codes ".") ∷ a_name x ∷ ks
expr_then (w_field h f) ks = a_name (codes "h") ∷ mark (codes ".") ∷ a_name h ∷ mark (codes ".") ∷ a_name f ∷ ks
expr_then w_port ks = a_name (codes "port") ∷ ks
expr_then w_rid ks = a_name (codes "rid") ∷ ks
expr_then (w_unary op a) ks = mark (codes "(") ∷ mark (unary_mark op) ∷ expr_then a (mark (codes ")") ∷ ks)
expr_then (w_binary op a b) ks = mark (codes "(") ∷ expr_then a (mark (binary_mark (binary_of op)) ∷ expr_then b (mark (codes ")") ∷ ks))
expr_then (w_slice a high low) ks = expr_then a (mark (codes "[") ∷ plain high ∷ mark (codes ":") ∷ plain low ∷ mark (codes "]") ∷ ks)
expr_then (w_pick c a b) ks = mark (codes "(") ∷ expr_then c (mark (codes "?") ∷ expr_then a (mark (codes ":") ∷ expr_then b (mark (codes ")") ∷ ks)))

-- ---- statements

-- = E;
abbrev pub value_then : ExprText → List Kind → List Kind
value_then e ks = mark (codes "=") ∷ expr_then e (mark (codes ";") ∷ ks)

-- if (E) {
abbrev pub condition_then : ExprText → List Kind → List Kind
condition_then e ks = a_name (codes "if") ∷ mark (codes "(") ∷ expr_then e (mark (codes ")") ∷ mark (codes "{") ∷ ks)

abbrev mutual
  pub stmt_then : StmtText → List Kind → List Kind
  stmt_then (w_set_meta x e) ks = a_name (codes "m") ∷ mark (codes ".") ∷ a_name x ∷ value_then e ks
  stmt_then (w_set_field h f e) ks = a_name (codes "h") ∷ mark (codes ".") ∷ a_name h ∷ mark (codes ".") ∷ a_name f ∷ value_then e ks
  stmt_then (w_apply x) ks = a_name x ∷ mark (codes ".") ∷ a_name (codes "apply") ∷ mark (codes "(") ∷ mark (codes ")") ∷ mark (codes ";") ∷ ks
  stmt_then (w_if e a) ks = condition_then e (block_then a (mark (codes "}") ∷ ks))
  stmt_then (w_if_else e a b) ks = condition_then e (block_then a (mark (codes "}") ∷ a_name (codes "else") ∷ mark (codes "{") ∷ block_then b (mark (codes "}") ∷ ks)))
  stmt_then (w_verdict w n) ks = a_name (codes "verdict") ∷ mark (codes "=") ∷ literal w n ∷ mark (codes ";") ∷ ks
  stmt_then (w_egress_port e) ks = a_name (codes "egress_port") ∷ value_then e ks
  stmt_then (w_group e) ks = a_name (codes "group") ∷ value_then e ks
  stmt_then w_return ks = a_name (codes "return") ∷ mark (codes ";") ∷ ks

  pub block_then : BlockText → List Kind → List Kind
  block_then w_done ks = ks
  block_then (w_then s b) ks = stmt_then s (block_then b ks)

-- ---- declarations

-- bit<W> NAME;
abbrev pub field_then : FieldText → List Kind → List Kind
field_then f ks = a_name (codes "bit") ∷ mark (codes "<") ∷ plain f.width ∷ mark (codes ">") ∷ a_name f.name ∷ mark (codes ";") ∷ ks

-- phrases one after the other
abbrev pub each_then : {A : Type 0} → (A → List Kind → List Kind) → List A → List Kind → List Kind
each_then one [] ks = ks
each_then one (x ∷ xs) ks = one x (each_then one xs ks)

abbrev pub header_then : HeaderText → List Kind → List Kind
header_then h ks = a_name (codes "header") ∷ a_name h.name ∷ mark (codes "{") ∷ each_then field_then h.fields (mark (codes "}") ∷ ks)

abbrev pub member_then : MemberText → List Kind → List Kind
member_then m ks = a_name m.header ∷ a_name m.name ∷ mark (codes ";") ∷ ks

-- m.NAME : KIND;
abbrev pub key_then : Bool → List ℕ → List Kind → List Kind
key_then exact x ks = a_name (codes "m") ∷ mark (codes ".") ∷ a_name x ∷ mark (codes ":") ∷ match_kind exact ∷ mark (codes ";") ∷ ks

abbrev pub keys_then : KeysText → List Kind → List Kind
keys_then no_keys ks = ks
keys_then (some_keys exact x xs) ks = key_then exact x (each_then (key_then exact) xs ks)

-- action NAME(bit<W> v) { m.NAME = v; }
-- table NAME { key = { .. } actions = { NAME; } default_action = NAME(LITERAL); }
abbrev pub table_then : TableText → List Kind → List Kind
table_then t ks =
    a_name (codes "action") ∷ a_name t.action ∷ mark (codes "(") ∷ a_name (codes "bit") ∷ mark (codes "<") ∷ plain t.width ∷ mark (codes ">") ∷ a_name (codes "v") ∷ mark (codes ")")
    ∷ mark (codes "{") ∷ a_name (codes "m") ∷ mark (codes ".") ∷ a_name t.result ∷ mark (codes "=") ∷ a_name (codes "v") ∷ mark (codes ";") ∷ mark (codes "}")
    ∷ a_name (codes "table") ∷ a_name t.table ∷ mark (codes "{") ∷ a_name (codes "key") ∷ mark (codes "=") ∷ mark (codes "{") ∷ keys_then t.keys (mark (codes "}")
    ∷ a_name (codes "actions") ∷ mark (codes "=") ∷ mark (codes "{") ∷ a_name t.actions ∷ mark (codes ";") ∷ mark (codes "}")
    ∷ a_name (codes "default_action") ∷ mark (codes "=") ∷ a_name t.default_action ∷ mark (codes "(") ∷ literal t.default_width t.default ∷ mark (codes ")") ∷ mark (codes ";") ∷ mark (codes "}") ∷ ks)

-- the tables of a control, and its statements after what every control begins with
abbrev pub control_then : List ℕ → ControlText → List Kind → List Kind
control_then begin c ks =
    each_then table_then c.tables (a_name (codes "apply") ∷ mark (codes "{") ∷ (said begin ++ block_then c.body (mark (codes "}") ∷ mark (codes "}") ∷ ks)))

-- b.extract(h.NAME);
abbrev pub extract_then : List ℕ → List Kind → List Kind
extract_then x ks = said (codes "b.extract(h.") ++ (a_name x ∷ mark (codes ")") ∷ mark (codes ";") ∷ ks)

-- b.emit(h.NAME);
abbrev pub emit_then : List ℕ → List Kind → List Kind
emit_then x ks = said (codes "b.emit(h.") ++ (a_name x ∷ mark (codes ")") ∷ mark (codes ";") ∷ ks)

-- ---- a whole text

abbrev pub ingress_begins : List ℕ
ingress_begins = codes "verdict = 8w0; egress_port = 16w0; group = 16w0;"

abbrev pub egress_begins : List ℕ
egress_begins = codes "verdict = 8w0; egress_port = 16w0;"

abbrev pub parser_head : List ℕ
parser_head = codes "parser Prs(packet_in b, out Headers h, inout Meta m) { state start {"

abbrev pub ingress_head : List ℕ
ingress_head = codes "transition accept; } } control Ing(inout Headers h, inout Meta m, in bit<16> port, out bit<8> verdict, out bit<16> egress_port, out bit<16> group) {"

abbrev pub egress_head : List ℕ
egress_head = codes "control Egr(inout Headers h, inout Meta m, in bit<64> rid, out bit<8> verdict, out bit<16> egress_port) {"

abbrev pub deparser_head : List ℕ
deparser_head = codes "control Dep(packet_out b, in Headers h) { apply {"

abbrev pub text_end : List ℕ
text_end = codes "} } CocoonSwitch(Prs(), Ing(), Egr(), Dep()) main;"

-- from the deparser on, and from each part before it
abbrev pub deparser_then : RestText → List Kind → List Kind
deparser_then t ks = said deparser_head ++ (each_then emit_then t.emits (said text_end ++ (finish ∷ ks)))

abbrev pub egress_then : RestText → List Kind → List Kind
egress_then t ks = said egress_head ++ (control_then egress_begins t.egress (deparser_then t ks))

abbrev pub ingress_then : RestText → List Kind → List Kind
ingress_then t ks = said ingress_head ++ (control_then ingress_begins t.ingress (egress_then t ks))

abbrev pub parser_then : RestText → List Kind → List Kind
parser_then t ks = said parser_head ++ (each_then extract_then t.extracts (ingress_then t ks))

abbrev pub meta_then : RestText → List Kind → List Kind
meta_then t ks = said (codes "} struct Meta {") ++ (each_then field_then t.meta (mark (codes "}") ∷ parser_then t ks))

abbrev pub rest_then : RestText → List Kind → List Kind
rest_then t ks = said (codes "struct Headers {") ++ (each_then member_then t.members (meta_then t ks))

abbrev pub text_tokens : ProgramText → List Kind
text_tokens t = architecture ++ each_then header_then t.headers (rest_then t.rest [])

-- there are as many lines in the struct, the parser and the deparser as headers
pub record Lines (n : ℕ) (t : RestText) : Type 0 where
  pub members : length t.members ≡ n
  pub extracts : length t.extracts ≡ n
  pub emits : length t.emits ≡ n

-- these are the tokens of such a text
pub record P4TextAt (ks : List Kind) (t : ProgramText) : Type 0 where
  pub tokens : ks ≡ text_tokens t
  pub lines : Lines (length t.headers) t.rest

-- the tokens begin some text
abbrev pub BeginsP4 : List Kind → Type 0
BeginsP4 ks = (rest : List Kind) × (t : ProgramText) × P4TextAt (ks ++ rest) t
