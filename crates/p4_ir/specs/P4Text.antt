-- The tokens of a program's text. The subset has one spelling for each program: blanks, comments and the spelling of
-- numbers aside, a text is determined by its program. So the grammar is the list of tokens that a program has, one
-- case for each production. It follows "The text" in docs/FORMATS.md; the subset is one of P4-16. Optional headers, tags
-- and versions of rows are absent.
use Rattle.std.specs.Prelude.{ℕ, Bool, true, false, List, [], ◌∷◌, ◌++◌, flat_map, slice_get, Option, Some, None, decimal, codes}
use Rattle.cocoon_num.specs.Values.{UnaryOp, flip, not_, BinaryOp, and_, or_, implies}
use Rattle.cocoon_num.specs.Tokens.{Kind, a_name, plain, literal, mark, finish, Lexicon, Bounds, kinds_in}
use Rattle.cocoon_num.specs.Reads.{operator}
use Rattle.p4_ir.specs.P4Tree.{P4Expr, p_lit, p_truth, p_meta, p_field, p_port, p_rid, p_unary, p_binary, p_slice, p_pick, P4Stmt, set_meta, set_header, apply_table, p_if, p_if_else, verdict, egress_port, group, p_return, P4Block, p_done, p_then, P4Field, P4Header, P4Table, Control, Program, meta_width}

-- ---- tokens of P4 texts

abbrev pub p4_lexicon : Lexicon
p4_lexicon = record {
  reserved = [];
  marks = codes "#include <core.p4>" ∷ codes "<=" ∷ codes ">=" ∷ codes "==" ∷ codes "!=" ∷ codes "++" ∷ codes "&&" ∷ codes "||" ∷ codes "{" ∷ codes "}" ∷ codes "(" ∷ codes ")" ∷ codes "[" ∷ codes "]" ∷ codes "<" ∷ codes ">" ∷ codes "=" ∷ codes "+" ∷ codes "-" ∷ codes "&" ∷ codes "|" ∷ codes "^" ∷ codes "~" ∷ codes "!" ∷ codes "," ∷ codes ";" ∷ codes ":" ∷ codes "." ∷ codes "?" ∷ [];
  widest = 128;
}

abbrev pub p4_bounds : Bounds
p4_bounds = record {
  operators = mark (codes "+") ∷ mark (codes "-") ∷ mark (codes "&") ∷ mark (codes "|") ∷ mark (codes "^") ∷ mark (codes "++") ∷ mark (codes "~") ∷ mark (codes "!") ∷ mark (codes "==") ∷ mark (codes "!=") ∷ mark (codes "<") ∷ mark (codes "<=") ∷ mark (codes ">") ∷ mark (codes ">=") ∷ mark (codes "&&") ∷ mark (codes "||") ∷ mark (codes "?") ∷ mark (codes ":") ∷ mark (codes "[") ∷ [];
  open_most = 512;
  operators_most = 1024;
}

-- the tokens of a fixed piece of text
abbrev pub said : List ℕ → List Kind
said text = kinds_in p4_lexicon text

-- ---- names

abbrev pub header_type : List ℕ → Kind
header_type name = a_name (codes "ht_" ++ name)

abbrev pub header_name : List ℕ → Kind
header_name name = a_name (codes "h_" ++ name)

abbrev pub field_name : List ℕ → Kind
field_name name = a_name (codes "f_" ++ name)

abbrev pub table_name : ℕ → Kind
table_name n = a_name (codes "t" ++ decimal n)

abbrev pub action_name : ℕ → Kind
action_name n = a_name (codes "a" ++ decimal n)

-- the tokens of what is there, or none
abbrev pub optional_tokens : {A : Type 0} → (A → List Kind) → Option A → List Kind
optional_tokens f None = []
optional_tokens f (Some a) = f a

-- m.NAME
abbrev pub meta_tokens : Program → ℕ → List Kind
meta_tokens p i = optional_tokens (λ (f : P4Field). said (codes "m.") ++ a_name f.name ∷ []) (slice_get p.meta i)

-- h.h_NAME.f_NAME
abbrev pub field_tokens : Program → ℕ → ℕ → List Kind
field_tokens p h f =
    optional_tokens (λ (d : P4Header). optional_tokens (λ (x : P4Field). said (codes "h.") ++ header_name d.name ∷ said (codes ".") ++ field_name x.name ∷ []) (slice_get d.fields f))
    (slice_get p.headers h)

-- bit<W> NAME
abbrev pub declared : ℕ → Kind → List Kind
declared width name = said (codes "bit<") ++ plain width ∷ said (codes ">") ++ name ∷ []

-- ---- expressions

abbrev pub unary_mark : UnaryOp → List ℕ
unary_mark flip = codes "~"
unary_mark not_ = codes "!"

-- as in a design, but for the reserved words there; `implies` is no operator of P4
abbrev pub binary_mark : BinaryOp → List ℕ
binary_mark and_ = codes "&&"
binary_mark or_ = codes "||"
binary_mark implies = []
binary_mark op = elim (operator op) [ mark text ↦ text | _ ↦ [] ]

abbrev pub in_parentheses : List Kind → List Kind
in_parentheses ks = mark (codes "(") ∷ ks ++ mark (codes ")") ∷ []

abbrev pub expr_tokens : Program → P4Expr → List Kind
expr_tokens p (p_lit w n) = literal w n ∷ []
expr_tokens p (p_truth true) = a_name (codes "true") ∷ []
expr_tokens p (p_truth false) = a_name (codes "false") ∷ []
expr_tokens p (p_meta i) = meta_tokens p i
expr_tokens p (p_field h f) = field_tokens p h f
expr_tokens p p_port = a_name (codes "port") ∷ []
expr_tokens p p_rid = a_name (codes "rid") ∷ []
expr_tokens p (p_unary op a) = in_parentheses (mark (unary_mark op) ∷ expr_tokens p a)
expr_tokens p (p_binary op a b) = in_parentheses (expr_tokens p a ++ mark (binary_mark op) ∷ expr_tokens p b)
expr_tokens p (p_slice a high low) = expr_tokens p a ++ mark (codes "[") ∷ plain high ∷ mark (codes ":") ∷ plain low ∷ mark (codes "]") ∷ []
expr_tokens p (p_pick c a b) = in_parentheses (expr_tokens p c ++ mark (codes "?") ∷ expr_tokens p a ++ mark (codes ":") ∷ expr_tokens p b)

-- ---- statements

-- X = E;
abbrev pub assignment : List Kind → List Kind → List Kind
assignment to e = to ++ mark (codes "=") ∷ e ++ mark (codes ";") ∷ []

abbrev pub in_braces : List Kind → List Kind
in_braces ks = mark (codes "{") ∷ ks ++ mark (codes "}") ∷ []

abbrev mutual
  pub stmt_tokens : Program → P4Stmt → List Kind
  stmt_tokens p (set_meta i e) = assignment (meta_tokens p i) (expr_tokens p e)
  stmt_tokens p (set_header h f e) = assignment (field_tokens p h f) (expr_tokens p e)
  stmt_tokens p (apply_table n) = table_name n ∷ said (codes ".apply();")
  stmt_tokens p (p_if e first) = a_name (codes "if") ∷ in_parentheses (expr_tokens p e) ++ in_braces (block_tokens p first)
  stmt_tokens p (p_if_else e first second) =
      a_name (codes "if") ∷ in_parentheses (expr_tokens p e) ++ in_braces (block_tokens p first) ++ a_name (codes "else") ∷ in_braces (block_tokens p second)
  stmt_tokens p (verdict n) = assignment (a_name (codes "verdict") ∷ []) (literal 8 n ∷ [])
  stmt_tokens p (egress_port e) = assignment (a_name (codes "egress_port") ∷ []) (expr_tokens p e)
  stmt_tokens p (group e) = assignment (a_name (codes "group") ∷ []) (expr_tokens p e)
  stmt_tokens p p_return = said (codes "return;")

  pub block_tokens : Program → P4Block → List Kind
  block_tokens p p_done = []
  block_tokens p (p_then first rest) = stmt_tokens p first ++ block_tokens p rest

-- ---- declarations

abbrev pub architecture : List Kind
architecture =
    said (codes "#include <core.p4>")
    ++ said (codes "parser CocoonParser<H, M>(packet_in b, out H h, inout M m);")
    ++ said (codes "control CocoonIngress<H, M>(inout H h, inout M m, in bit<16> port, out bit<8> verdict, out bit<16> egress_port, out bit<16> group);")
    ++ said (codes "control CocoonEgress<H, M>(inout H h, inout M m, in bit<64> rid, out bit<8> verdict, out bit<16> egress_port);")
    ++ said (codes "control CocoonDeparser<H>(packet_out b, in H h);")
    ++ said (codes "package CocoonSwitch<H, M>(CocoonParser<H, M> p, CocoonIngress<H, M> i, CocoonEgress<H, M> e, CocoonDeparser<H> d);")

abbrev pub header_tokens : P4Header → List Kind
header_tokens d =
    a_name (codes "header") ∷ header_type d.name ∷ in_braces (flat_map (λ (f : P4Field). declared f.width (field_name f.name) ++ mark (codes ";") ∷ []) d.fields)

-- ht_NAME h_NAME;
abbrev pub member_tokens : P4Header → List Kind
member_tokens d = header_type d.name ∷ header_name d.name ∷ mark (codes ";") ∷ []

abbrev pub meta_member_tokens : P4Field → List Kind
meta_member_tokens f = declared f.width (a_name f.name) ++ mark (codes ";") ∷ []

abbrev pub match_kind : Bool → Kind
match_kind true = a_name (codes "exact")
match_kind false = a_name (codes "ternary")

-- action aN(bit<W> v) { m.R = v; }
-- table tN { key = { m.K : ternary; } actions = { aN; } default_action = aN(Ww0); }
abbrev pub table_tokens : Program → P4Table → List Kind
table_tokens p t =
    a_name (codes "action") ∷ action_name t.number ∷ in_parentheses (declared (meta_width p t.result) (a_name (codes "v")))
    ++ in_braces (assignment (meta_tokens p t.result) (a_name (codes "v") ∷ []))
    ++ a_name (codes "table") ∷ table_name t.number ∷ in_braces
    (a_name (codes "key") ∷ mark (codes "=") ∷ in_braces (flat_map (λ i. meta_tokens p i ++ mark (codes ":") ∷ match_kind t.exact ∷ mark (codes ";") ∷ []) t.keys)
    ++ a_name (codes "actions") ∷ mark (codes "=") ∷ in_braces (action_name t.number ∷ mark (codes ";") ∷ [])
    ++ assignment (a_name (codes "default_action") ∷ []) (action_name t.number ∷ in_parentheses (literal (meta_width p t.result) 0 ∷ [])))

-- the tables of a control, and its statements after what every control begins with
abbrev pub control_tokens : Program → Control → List ℕ → List Kind
control_tokens p c begin =
    in_braces (flat_map (table_tokens p) c.tables ++ a_name (codes "apply") ∷ in_braces (said begin ++ block_tokens p c.body))

abbrev pub program_tokens : Program → List Kind
program_tokens p =
    architecture
    ++ flat_map header_tokens p.headers
    ++ said (codes "struct Headers") ++ in_braces (flat_map member_tokens p.headers)
    ++ said (codes "struct Meta") ++ in_braces (flat_map meta_member_tokens p.meta)
    ++ said (codes "parser Prs(packet_in b, out Headers h, inout Meta m) { state start {")
    ++ flat_map (λ (d : P4Header). said (codes "b.extract(h.") ++ header_name d.name ∷ said (codes ");")) p.headers
    ++ said (codes "transition accept; } }")
    ++ said (codes "control Ing(inout Headers h, inout Meta m, in bit<16> port, out bit<8> verdict, out bit<16> egress_port, out bit<16> group)")
    ++ control_tokens p p.ingress (codes "verdict = 8w0; egress_port = 16w0; group = 16w0;")
    ++ said (codes "control Egr(inout Headers h, inout Meta m, in bit<64> rid, out bit<8> verdict, out bit<16> egress_port)")
    ++ control_tokens p p.egress (codes "verdict = 8w0; egress_port = 16w0;")
    ++ said (codes "control Dep(packet_out b, in Headers h) { apply {")
    ++ flat_map (λ (d : P4Header). said (codes "b.emit(h.") ++ header_name d.name ∷ said (codes ");")) p.headers
    ++ said (codes "} } CocoonSwitch(Prs(), Ing(), Egr(), Dep()) main;")
    ++ finish ∷ []
