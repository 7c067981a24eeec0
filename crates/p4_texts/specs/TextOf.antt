-- The text of a program, before its tokens: the names and numbers that the printer writes. The laws of `program_laws` cite it.
-- It follows "The text" in docs/FORMATS.md; the subset is one of P4-16. Optional headers, tags and versions of rows are
-- absent.
use Rattle.std.specs.Prelude.{ℕ, Bool, List, [], ◌∷◌, ◌++◌, map, slice_get, Some, None, codes, decimal}
use Rattle.cocoon_num.specs.Values.{BinaryOp, add, sub, bits_and, bits_or, bits_xor, concat, equal, unequal, less, less_equal, greater, greater_equal, and_, or_, implies}
use Rattle.p4_ir.specs.P4Tree.{P4Expr, p_lit, p_truth, p_meta, p_field, p_port, p_rid, p_unary, p_binary, p_slice, p_pick, P4Stmt, set_meta, set_header, apply_table, p_if, p_if_else, verdict, egress_port, group, p_return, P4Block, p_done, p_then, P4Field, P4Header, P4Table, Control, Program, meta_width}
use Rattle.p4_ir.specs.declared.program.P4Binary.{P4Binary}
use Rattle.p4_ir.specs.declared.program.P4Binary.TheVariants.{Add, Sub, BitAnd, BitOr, BitXor, Concat, Equal, Unequal, Less, LessEqual, Greater, GreaterEqual, And, Or}
use Rattle.p4_texts.specs.Written.{ExprText, w_lit, w_truth, w_meta, w_field, w_port, w_rid, w_unary, w_binary, w_slice, w_pick, StmtText, w_set_meta, w_set_field, w_apply, w_if, w_if_else, w_verdict, w_egress_port, w_group, w_return, BlockText, w_done, w_then, FieldText, HeaderText, MemberText, KeysText, no_keys, some_keys, TableText, ControlText, ProgramText}

abbrev pub meta_name : Program → ℕ → List ℕ
meta_name p i = elim (slice_get p.meta i) [ Some f ↦ f.name | None ↦ [] ]

abbrev pub header_called : Program → ℕ → List ℕ
header_called p h = elim (slice_get p.headers h) [ Some d ↦ codes "h_" ++ d.name | None ↦ [] ]

abbrev pub field_called : List P4Field → ℕ → List ℕ
field_called fields f = elim (slice_get fields f) [ Some x ↦ codes "f_" ++ x.name | None ↦ [] ]

abbrev pub field_in_header : Program → ℕ → ℕ → List ℕ
field_in_header p h f = elim (slice_get p.headers h) [ Some d ↦ field_called d.fields f | None ↦ [] ]

-- `implies` is no operator of P4
abbrev pub binary_written : BinaryOp → P4Binary
binary_written add = Add
binary_written sub = Sub
binary_written bits_and = BitAnd
binary_written bits_or = BitOr
binary_written bits_xor = BitXor
binary_written concat = Concat
binary_written equal = Equal
binary_written unequal = Unequal
binary_written less = Less
binary_written less_equal = LessEqual
binary_written greater = Greater
binary_written greater_equal = GreaterEqual
binary_written and_ = And
binary_written or_ = Or
binary_written implies = Or

abbrev pub expr_written : Program → P4Expr → ExprText
expr_written p (p_lit w n) = w_lit w n
expr_written p (p_truth b) = w_truth b
expr_written p (p_meta i) = w_meta (meta_name p i)
expr_written p (p_field h f) = w_field (header_called p h) (field_in_header p h f)
expr_written p p_port = w_port
expr_written p p_rid = w_rid
expr_written p (p_unary op a) = w_unary op (expr_written p a)
expr_written p (p_binary op a b) = w_binary (binary_written op) (expr_written p a) (expr_written p b)
expr_written p (p_slice a high low) = w_slice (expr_written p a) high low
expr_written p (p_pick c a b) = w_pick (expr_written p c) (expr_written p a) (expr_written p b)

abbrev mutual
  pub stmt_written : Program → P4Stmt → StmtText
  stmt_written p (set_meta i e) = w_set_meta (meta_name p i) (expr_written p e)
  stmt_written p (set_header h f e) = w_set_field (header_called p h) (field_in_header p h f) (expr_written p e)
  stmt_written p (apply_table n) = w_apply (codes "t" ++ decimal n)
  stmt_written p (p_if e a) = w_if (expr_written p e) (block_written p a)
  stmt_written p (p_if_else e a b) = w_if_else (expr_written p e) (block_written p a) (block_written p b)
  stmt_written p (verdict n) = w_verdict 8 n
  stmt_written p (egress_port e) = w_egress_port (expr_written p e)
  stmt_written p (group e) = w_group (expr_written p e)
  stmt_written p p_return = w_return

  pub block_written : Program → P4Block → BlockText
  block_written p p_done = w_done
  block_written p (p_then s b) = w_then (stmt_written p s) (block_written p b)

abbrev pub meta_written : P4Field → FieldText
meta_written f = record { width = f.width; name = f.name }

abbrev pub field_written : P4Field → FieldText
field_written f = record { width = f.width; name = codes "f_" ++ f.name }

abbrev pub header_written : P4Header → HeaderText
header_written h = record { name = codes "ht_" ++ h.name; fields = map field_written h.fields }

abbrev pub member_written : P4Header → MemberText
member_written h = record { header = codes "ht_" ++ h.name; name = codes "h_" ++ h.name }

abbrev pub line_written : P4Header → List ℕ
line_written h = codes "h_" ++ h.name

abbrev pub keys_written : Bool → List (List ℕ) → KeysText
keys_written exact [] = no_keys
keys_written exact (x ∷ xs) = some_keys exact x xs

abbrev pub table_written : Program → P4Table → TableText
table_written p t = record {
  action = codes "a" ++ decimal t.number;
  width = meta_width p t.result;
  result = meta_name p t.result;
  table = codes "t" ++ decimal t.number;
  keys = keys_written t.exact (map (meta_name p) t.keys);
  actions = codes "a" ++ decimal t.number;
  default_action = codes "a" ++ decimal t.number;
  default_width = meta_width p t.result;
  default = 0;
}

abbrev pub control_written : Program → Control → ControlText
control_written p c = record { tables = map (table_written p) c.tables; body = block_written p c.body }

abbrev pub text_of_program : Program → ProgramText
text_of_program p = record {
  headers = map header_written p.headers;
  rest = record {
    members = map member_written p.headers;
    meta = map meta_written p.meta;
    extracts = map line_written p.headers;
    ingress = control_written p p.ingress;
    egress = control_written p p.egress;
    emits = map line_written p.headers;
  };
}
