-- Whether expressions and blocks are the same trees, as plain programs. Private clauses of `exprs` and `stmts` cite it.
use Rattle.std.specs.Prelude.{ℕ, ◌==◌, ◌&&◌, Bool, true, false, not, if◌then◌else◌}
use Rattle.cocoon_num.specs.Values.{UnaryOp, flip, not_, BinaryOp, add, sub, bits_and, bits_or, bits_xor, concat, equal, unequal, less, less_equal, greater, greater_equal, and_, or_, implies}
use Rattle.p4_ir.specs.P4Tree.{P4Expr, p_lit, p_truth, p_meta, p_field, p_port, p_rid, p_unary, p_binary, p_slice, p_pick, P4Stmt, set_meta, set_header, apply_table, p_if, p_if_else, verdict, egress_port, group, p_return, P4Block, p_done, p_then}

-- ---- operators

abbrev pub same_truth : Bool → Bool → Bool
same_truth b c = if b then c else not c

abbrev pub same_unary : UnaryOp → UnaryOp → Bool
same_unary flip flip = true
same_unary not_ not_ = true
same_unary _ _ = false

-- a number for each operator
abbrev pub code_of : BinaryOp → ℕ
code_of add = 0
code_of sub = 1
code_of bits_and = 2
code_of bits_or = 3
code_of bits_xor = 4
code_of concat = 5
code_of equal = 6
code_of unequal = 7
code_of less = 8
code_of less_equal = 9
code_of greater = 10
code_of greater_equal = 11
code_of and_ = 12
code_of or_ = 13
code_of implies = 14

abbrev pub same_binary : BinaryOp → BinaryOp → Bool
same_binary op o = code_of op == code_of o

-- ---- expressions

abbrev pub same_expr : P4Expr → P4Expr → Bool
same_expr (p_lit w n) e = elim e [ p_lit v m ↦ (w == v) && (n == m) | _ ↦ false ]
same_expr (p_truth b) e = elim e [ p_truth c ↦ same_truth b c | _ ↦ false ]
same_expr (p_meta i) e = elim e [ p_meta j ↦ i == j | _ ↦ false ]
same_expr (p_field h f) e = elim e [ p_field i g ↦ (h == i) && (f == g) | _ ↦ false ]
same_expr p_port e = elim e [ p_port ↦ true | _ ↦ false ]
same_expr p_rid e = elim e [ p_rid ↦ true | _ ↦ false ]
same_expr (p_unary op a) e = elim e [ p_unary o b ↦ same_unary op o && same_expr a b | _ ↦ false ]
same_expr (p_binary op a b) e = elim e [ p_binary o c d ↦ same_binary op o && same_expr a c && same_expr b d | _ ↦ false ]
same_expr (p_slice a high low) e = elim e [ p_slice b top bottom ↦ same_expr a b && (high == top) && (low == bottom) | _ ↦ false ]
same_expr (p_pick c a b) e = elim e [ p_pick d x y ↦ same_expr c d && same_expr a x && same_expr b y | _ ↦ false ]

-- ---- statements

abbrev mutual
  pub same_stmt : P4Stmt → P4Stmt → Bool
  same_stmt (set_meta i a) s = elim s [ set_meta j b ↦ (i == j) && same_expr a b | _ ↦ false ]
  same_stmt (set_header h f a) s = elim s [ set_header i g b ↦ (h == i) && (f == g) && same_expr a b | _ ↦ false ]
  same_stmt (apply_table n) s = elim s [ apply_table m ↦ n == m | _ ↦ false ]
  same_stmt (p_if c x) s = elim s [ p_if d y ↦ same_expr c d && same_block x y | _ ↦ false ]
  same_stmt (p_if_else c x y) s = elim s [ p_if_else d u v ↦ same_expr c d && same_block x u && same_block y v | _ ↦ false ]
  same_stmt (verdict n) s = elim s [ verdict m ↦ n == m | _ ↦ false ]
  same_stmt (egress_port a) s = elim s [ egress_port b ↦ same_expr a b | _ ↦ false ]
  same_stmt (group a) s = elim s [ group b ↦ same_expr a b | _ ↦ false ]
  same_stmt p_return s = elim s [ p_return ↦ true | _ ↦ false ]

  pub same_block : P4Block → P4Block → Bool
  same_block p_done block = elim block [ p_done ↦ true | p_then t rest ↦ false ]
  same_block (p_then s ss) block = elim block [ p_done ↦ false | p_then t rest ↦ same_stmt s t && same_block ss rest ]
