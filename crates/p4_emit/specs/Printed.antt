-- The text that is printed of a program. The clauses of `emit` cite it, and those of net_bundle.
-- Each part adds its text, with a line feed before each line but the first. A block's inside is indented by two blanks. It
-- follows "The text" in docs/FORMATS.md. Optional headers, tags and versions of rows are absent.
use Rattle.std.specs.Prelude.{ℕ, ◌+◌, Bool, true, false, List, [], ◌++◌, slice_get, Option, Some, None, decimal, codes}
use Rattle.cocoon_num.specs.Values.{UnaryOp, flip, not_, BinaryOp, add, sub, bits_and, bits_or, bits_xor, concat, equal, unequal, less, less_equal, greater, greater_equal, and_, or_, implies}
pub use Rattle.text_lines.specs.Printing.{each_text, literal_text, new_line}
use Rattle.p4_ir.specs.P4Tree.{P4Expr, p_lit, p_truth, p_meta, p_field, p_port, p_rid, p_unary, p_binary, p_slice, p_pick, P4Stmt, set_meta, set_header, apply_table, p_if, p_if_else, verdict, egress_port, group, p_return, P4Block, p_done, p_then, P4Field, P4Header, P4Table, Program, meta_width}

abbrev pub optional_text : {A : Type 0} → (A → List ℕ) → Option A → List ℕ
optional_text f None = []
optional_text f (Some a) = f a

abbrev pub meta_text : Program → ℕ → List ℕ
meta_text p i = optional_text (λ (f : P4Field). codes "m." ++ f.name) (slice_get p.meta i)

abbrev pub field_of_text : P4Header → ℕ → List ℕ
field_of_text d f = optional_text (λ (x : P4Field). codes "h.h_" ++ (d.name ++ (codes ".f_" ++ x.name))) (slice_get d.fields f)

abbrev pub field_text : Program → ℕ → ℕ → List ℕ
field_text p h f = optional_text (λ (d : P4Header). field_of_text d f) (slice_get p.headers h)

-- ---- expressions

abbrev pub unary_text : UnaryOp → List ℕ
unary_text flip = codes "(~"
unary_text not_ = codes "(!"

-- `implies` is no operator of P4
abbrev pub binary_text : BinaryOp → List ℕ
binary_text add = codes " + "
binary_text sub = codes " - "
binary_text bits_and = codes " & "
binary_text bits_or = codes " | "
binary_text bits_xor = codes " ^ "
binary_text concat = codes " ++ "
binary_text equal = codes " == "
binary_text unequal = codes " != "
binary_text less = codes " < "
binary_text less_equal = codes " <= "
binary_text greater = codes " > "
binary_text greater_equal = codes " >= "
binary_text and_ = codes " && "
binary_text or_ = codes " || "
binary_text implies = []

-- [HIGH:LOW]
abbrev pub bounds_text : ℕ → ℕ → List ℕ
bounds_text high low = codes "[" ++ (decimal high ++ (codes ":" ++ (decimal low ++ codes "]")))

abbrev pub expr_text : Program → P4Expr → List ℕ
expr_text p (p_lit w n) = literal_text w n
expr_text p (p_truth true) = codes "true"
expr_text p (p_truth false) = codes "false"
expr_text p (p_meta i) = meta_text p i
expr_text p (p_field h f) = field_text p h f
expr_text p p_port = codes "port"
expr_text p p_rid = codes "rid"
expr_text p (p_unary op a) = unary_text op ++ (expr_text p a ++ codes ")")
expr_text p (p_binary op a b) = codes "(" ++ (expr_text p a ++ (binary_text op ++ (expr_text p b ++ codes ")")))
expr_text p (p_slice a high low) = expr_text p a ++ bounds_text high low
expr_text p (p_pick c a b) = codes "(" ++ (expr_text p c ++ (codes " ? " ++ (expr_text p a ++ (codes " : " ++ (expr_text p b ++ codes ")")))))

-- ---- statements, each from where its first line begins on

abbrev pub set_text : Program → List ℕ → P4Expr → List ℕ
set_text p target e = target ++ (codes " = " ++ (expr_text p e ++ codes ";"))

unfoldable pub verdict_text : ℕ → List ℕ
verdict_text n = codes "verdict = " ++ (literal_text 8 n ++ codes ";")

unfoldable pub egress_port_text : Program → P4Expr → List ℕ
egress_port_text p e = set_text p (codes "egress_port") e

unfoldable pub group_text : Program → P4Expr → List ℕ
group_text p e = set_text p (codes "group") e

unfoldable pub if_text : Program → P4Expr → List ℕ
if_text p e = codes "if (" ++ (expr_text p e ++ codes ") {")

unfoldable pub else_text : ℕ → List ℕ
else_text d = new_line d ++ codes "} else {"

unfoldable pub end_text : ℕ → List ℕ
end_text d = new_line d ++ codes "}"

abbrev mutual
  pub stmt_text : Program → ℕ → P4Stmt → List ℕ
  stmt_text p d (set_meta i e) = set_text p (meta_text p i) e
  stmt_text p d (set_header h f e) = set_text p (field_text p h f) e
  stmt_text p d (apply_table n) = codes "t" ++ (decimal n ++ codes ".apply();")
  stmt_text p d (p_if e first) = if_text p e ++ (block_text p (d + 2) first ++ end_text d)
  stmt_text p d (p_if_else e first second) = if_text p e ++ (block_text p (d + 2) first ++ (else_text d ++ (block_text p (d + 2) second ++ end_text d)))
  stmt_text p d (verdict n) = verdict_text n
  stmt_text p d (egress_port e) = egress_port_text p e
  stmt_text p d (group e) = group_text p e
  stmt_text p d p_return = codes "return;"

  -- each statement on lines of its own
  pub block_text : Program → ℕ → P4Block → List ℕ
  block_text p d p_done = []
  block_text p d (p_then first rest) = new_line d ++ (stmt_text p d first ++ block_text p d rest)

-- ---- declarations

-- what every program has: before its headers, between its parts, and after its deparser
pub data Piece : Type 0 where
  architecture_piece headers_piece meta_piece parser_piece : Piece
  ingress_piece ingress_apply egress_piece egress_apply deparser_piece main_piece : Piece

unfoldable pub fixed : Piece → List ℕ
fixed architecture_piece = codes "#include <core.p4>\nparser CocoonParser<H, M>(packet_in b, out H h, inout M m);\ncontrol CocoonIngress<H, M>(inout H h, inout M m, in bit<16> port, out bit<8> verdict, out bit<16> egress_port, out bit<16> group);\ncontrol CocoonEgress<H, M>(inout H h, inout M m, in bit<64> rid, out bit<8> verdict, out bit<16> egress_port);\ncontrol CocoonDeparser<H>(packet_out b, in H h);\npackage CocoonSwitch<H, M>(CocoonParser<H, M> p, CocoonIngress<H, M> i, CocoonEgress<H, M> e, CocoonDeparser<H> d);"
fixed headers_piece = codes "\nstruct Headers {"
fixed meta_piece = codes "\n}\nstruct Meta {"
fixed parser_piece = codes "\n}\nparser Prs(packet_in b, out Headers h, inout Meta m) {\n  state start {"
fixed ingress_piece = codes "\n    transition accept;\n  }\n}\ncontrol Ing(inout Headers h, inout Meta m, in bit<16> port, out bit<8> verdict, out bit<16> egress_port, out bit<16> group) {"
fixed ingress_apply = codes "\n  apply {\n    verdict = 8w0;\n    egress_port = 16w0;\n    group = 16w0;"
fixed egress_piece = codes "\n  }\n}\ncontrol Egr(inout Headers h, inout Meta m, in bit<64> rid, out bit<8> verdict, out bit<16> egress_port) {"
fixed egress_apply = codes "\n  apply {\n    verdict = 8w0;\n    egress_port = 16w0;"
fixed deparser_piece = codes "\n  }\n}\ncontrol Dep(packet_out b, in Headers h) {\n  apply {"
fixed main_piece = codes "\n  }\n}\nCocoonSwitch(Prs(), Ing(), Egr(), Dep()) main;\n"

unfoldable pub header_field_text : P4Field → List ℕ
header_field_text f = codes "\n  bit<" ++ (decimal f.width ++ (codes "> f_" ++ (f.name ++ codes ";")))

unfoldable pub header_text : P4Header → List ℕ
header_text h = codes "\nheader ht_" ++ (h.name ++ (codes " {" ++ (each_text header_field_text h.fields ++ codes "\n}")))

unfoldable pub member_text : P4Header → List ℕ
member_text h = codes "\n  ht_" ++ (h.name ++ (codes " h_" ++ (h.name ++ codes ";")))

unfoldable pub meta_member_text : P4Field → List ℕ
meta_member_text f = codes "\n  bit<" ++ (decimal f.width ++ (codes "> " ++ (f.name ++ codes ";")))

unfoldable pub extract_text : P4Header → List ℕ
extract_text h = codes "\n    b.extract(h.h_" ++ (h.name ++ codes ");")

unfoldable pub deparse_text : P4Header → List ℕ
deparse_text h = codes "\n    b.emit(h.h_" ++ (h.name ++ codes ");")

abbrev pub kind_text : Bool → List ℕ
kind_text true = codes " : exact;"
kind_text false = codes " : ternary;"

unfoldable pub key_text : Program → Bool → ℕ → List ℕ
key_text p exact i = codes " " ++ (meta_text p i ++ kind_text exact)

unfoldable pub action_text : Program → P4Table → List ℕ
action_text p t = codes "\n  action a" ++ (decimal t.number ++ (codes "(bit<" ++ (decimal (meta_width p t.result) ++ (codes "> v) { " ++ (meta_text p t.result ++ codes " = v; }")))))

unfoldable pub keys_text : Program → P4Table → List ℕ
keys_text p t = codes "\n  table t" ++ (decimal t.number ++ (codes " {\n    key = {" ++ (each_text (key_text p t.exact) t.keys ++ codes " }")))

unfoldable pub default_text : Program → P4Table → List ℕ
default_text p t = codes "\n    actions = { a" ++ (decimal t.number ++ (codes "; }\n    default_action = a" ++ (decimal t.number ++ (codes "(" ++ (literal_text (meta_width p t.result) 0 ++ codes ");\n  }")))))

abbrev pub table_text : Program → P4Table → List ℕ
table_text p t = action_text p t ++ (keys_text p t ++ default_text p t)

unfoldable pub heads_text : Program → List ℕ
heads_text p =
    fixed architecture_piece ++ (each_text header_text p.headers
    ++ (fixed headers_piece ++ (each_text member_text p.headers
    ++ (fixed meta_piece ++ (each_text meta_member_text p.meta
    ++ (fixed parser_piece ++ each_text extract_text p.headers))))))

unfoldable pub ingress_text : Program → List ℕ
ingress_text p = fixed ingress_piece ++ (each_text (table_text p) p.ingress.tables ++ (fixed ingress_apply ++ block_text p 4 p.ingress.body))

unfoldable pub egress_text : Program → List ℕ
egress_text p =
    fixed egress_piece ++ (each_text (table_text p) p.egress.tables ++ (fixed egress_apply ++ (block_text p 4 p.egress.body
    ++ (fixed deparser_piece ++ (each_text deparse_text p.headers ++ fixed main_piece)))))

abbrev pub printed : Program → List ℕ
printed p = heads_text p ++ (ingress_text p ++ egress_text p)
