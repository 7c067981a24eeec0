-- The program of a switch, from those of two others. All programs of a design differ in the number of the switch alone, so its places
-- are those where the two differ. The clauses of `SwitchProgram` and of `emit_switch` cite it, and those of all that makes or writes networks of such
-- programs.
use Rattle.std.specs.Prelude.{ℕ, ◌==◌, if◌then◌else◌}
use Rattle.p4_ir.specs.P4Tree.{P4Expr, p_lit, p_truth, p_meta, p_field, p_port, p_rid, p_unary, p_binary, p_slice, p_pick, P4Stmt, set_meta, set_header, apply_table, p_if, p_if_else, verdict, egress_port, group, p_return, P4Block, p_done, p_then, Control, Program}

-- the number of the switch, where two literals differ
abbrev pub literal_merged : (switch width n other : ℕ) → P4Expr
literal_merged s w n m = if n == m then p_lit w n else p_lit 16 s

abbrev pub expr_merged : (switch : ℕ) → P4Expr → P4Expr → P4Expr
expr_merged s (p_lit w n) (p_lit v m) = literal_merged s w n m
expr_merged s (p_unary op a) (p_unary other x) = p_unary op (expr_merged s a x)
expr_merged s (p_binary op a b) (p_binary other x y) = p_binary op (expr_merged s a x) (expr_merged s b y)
expr_merged s (p_slice a high low) (p_slice x i j) = p_slice (expr_merged s a x) high low
expr_merged s (p_pick c a b) (p_pick z x y) = p_pick (expr_merged s c z) (expr_merged s a x) (expr_merged s b y)
expr_merged s e other = e

abbrev mutual
  pub stmt_merged : (switch : ℕ) → P4Stmt → P4Stmt → P4Stmt
  stmt_merged s (set_meta i e) (set_meta j x) = set_meta i (expr_merged s e x)
  stmt_merged s (set_header h f e) (set_header k g x) = set_header h f (expr_merged s e x)
  stmt_merged s (p_if e a) (p_if z x) = p_if (expr_merged s e z) (block_merged s a x)
  stmt_merged s (p_if_else e a b) (p_if_else z x y) = p_if_else (expr_merged s e z) (block_merged s a x) (block_merged s b y)
  stmt_merged s (egress_port e) (egress_port x) = egress_port (expr_merged s e x)
  stmt_merged s (group e) (group x) = group (expr_merged s e x)
  stmt_merged s a other = a

  pub block_merged : (switch : ℕ) → P4Block → P4Block → P4Block
  block_merged s (p_then a rest) (p_then x others) = p_then (stmt_merged s a x) (block_merged s rest others)
  block_merged s b other = b

abbrev pub control_merged : (switch : ℕ) → Control → Control → Control
control_merged s c other = record { tables = c.tables; body = block_merged s c.body other.body }

-- the program of the switch of this number
abbrev pub merged : (switch : ℕ) → Program → Program → Program
merged s p other = record {
  headers = p.headers;
  meta = p.meta;
  ingress = control_merged s p.ingress other.ingress;
  egress = control_merged s p.egress other.egress;
}
