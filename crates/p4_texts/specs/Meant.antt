-- The program that a P4 text stands for, where the text breaks no kind rule: each name that is used becomes the number
-- of what it names, and the names of headers and fields lose what they begin with. A name that is not declared becomes
-- a number that nothing has. The laws of `program_laws` cite it. It follows "The text" in docs/FORMATS.md; the subset is one
-- of P4-16. Optional headers, tags and versions of rows are absent.
use Rattle.std.specs.Prelude.{ℕ, suc, Bool, false, List, [], ◌∷◌, length, drop, map, slice_get, if◌then◌else◌, Some, None, codes}
use Rattle.cocoon_num.specs.Names.{same_name}
use Rattle.cocoon_num.specs.Tokens.{begins, decimal_value}
use Rattle.p4_ir.specs.Program.{binary_of}
use Rattle.p4_ir.specs.P4Tree.{P4Expr, p_lit, p_truth, p_meta, p_field, p_port, p_rid, p_unary, p_binary, p_slice, p_pick, P4Stmt, set_meta, set_header, apply_table, p_if, p_if_else, verdict, egress_port, group, p_return, P4Block, p_done, p_then, P4Field, P4Header, P4Table, Control, Program}
use Rattle.p4_texts.specs.Written.{ExprText, w_lit, w_truth, w_meta, w_field, w_port, w_rid, w_unary, w_binary, w_slice, w_pick, StmtText, w_set_meta, w_set_field, w_apply, w_if, w_if_else, w_verdict, w_egress_port, w_group, w_return, BlockText, w_done, w_then, FieldText, HeaderText, MemberText, KeysText, no_keys, some_keys, TableText, ControlText, ProgramText}

-- ---- names

-- how many names stand before the first that is this one
abbrev pub place_in : List (List ℕ) → List ℕ → ℕ
place_in [] x = 0
place_in (y ∷ ys) x = if same_name y x then 0 else suc (place_in ys x)

-- what follows what a name begins with
abbrev pub rest_after : List ℕ → List ℕ → List ℕ
rest_after start x = if begins start x then drop (length start) x else []

-- the number that follows the first letter
abbrev pub number_in : List ℕ → ℕ
number_in x = elim (decimal_value (drop 1 x)) [ Some n ↦ n | None ↦ 0 ]

abbrev pub names_of : List FieldText → List (List ℕ)
names_of fields = map (λ (f : FieldText). f.name) fields

abbrev pub meta_at : ProgramText → List ℕ → ℕ
meta_at t x = place_in (names_of t.rest.meta) x

-- a header has the name that its line in `struct Headers` gives it
abbrev pub header_at : ProgramText → List ℕ → ℕ
header_at t x = place_in (map (λ (m : MemberText). m.name) t.rest.members) x

abbrev pub field_at : ProgramText → (header : ℕ) → List ℕ → ℕ
field_at t header x = elim (slice_get t.headers header) [ Some h ↦ place_in (names_of h.fields) x | None ↦ 0 ]

-- ---- expressions and statements

abbrev pub expr_meant : ProgramText → ExprText → P4Expr
expr_meant t (w_lit w n) = p_lit w n
expr_meant t (w_truth b) = p_truth b
expr_meant t (w_meta x) = p_meta (meta_at t x)
expr_meant t (w_field h f) = p_field (header_at t h) (field_at t (header_at t h) f)
expr_meant t w_port = p_port
expr_meant t w_rid = p_rid
expr_meant t (w_unary op a) = p_unary op (expr_meant t a)
expr_meant t (w_binary op a b) = p_binary (binary_of op) (expr_meant t a) (expr_meant t b)
expr_meant t (w_slice a high low) = p_slice (expr_meant t a) high low
expr_meant t (w_pick c a b) = p_pick (expr_meant t c) (expr_meant t a) (expr_meant t b)

abbrev mutual
  pub stmt_meant : ProgramText → StmtText → P4Stmt
  stmt_meant t (w_set_meta x e) = set_meta (meta_at t x) (expr_meant t e)
  stmt_meant t (w_set_field h f e) = set_header (header_at t h) (field_at t (header_at t h) f) (expr_meant t e)
  stmt_meant t (w_apply x) = apply_table (number_in x)
  stmt_meant t (w_if e a) = p_if (expr_meant t e) (block_meant t a)
  stmt_meant t (w_if_else e a b) = p_if_else (expr_meant t e) (block_meant t a) (block_meant t b)
  stmt_meant t (w_verdict w n) = verdict n
  stmt_meant t (w_egress_port e) = egress_port (expr_meant t e)
  stmt_meant t (w_group e) = group (expr_meant t e)
  stmt_meant t w_return = p_return

  pub block_meant : ProgramText → BlockText → P4Block
  block_meant t w_done = p_done
  block_meant t (w_then s b) = p_then (stmt_meant t s) (block_meant t b)

-- ---- declarations

abbrev pub meta_meant : FieldText → P4Field
meta_meant f = record { name = f.name; width = f.width }

abbrev pub field_meant : FieldText → P4Field
field_meant f = record { name = rest_after (codes "f_") f.name; width = f.width }

abbrev pub header_meant : HeaderText → P4Header
header_meant h = record { name = rest_after (codes "ht_") h.name; fields = map field_meant h.fields }

abbrev pub is_exact : KeysText → Bool
is_exact no_keys = false
is_exact (some_keys exact x xs) = exact

abbrev pub key_names : KeysText → List (List ℕ)
key_names no_keys = []
key_names (some_keys exact x xs) = x ∷ xs

abbrev pub table_meant : ProgramText → TableText → P4Table
table_meant t k = record { number = number_in k.action; exact = is_exact k.keys; keys = map (meta_at t) (key_names k.keys); result = meta_at t k.result }

abbrev pub control_meant : ProgramText → ControlText → Control
control_meant t c = record { tables = map (table_meant t) c.tables; body = block_meant t c.body }

abbrev pub program_of_text : ProgramText → Program
program_of_text t = record { headers = map header_meant t.headers; meta = map meta_meant t.rest.meta; ingress = control_meant t t.rest.ingress; egress = control_meant t t.rest.egress }
