-- Cited by the clauses of copies of programs, of `emit`, of `write_bundle` and of `lower`: the program of the definitions,
-- which follow "Lowering and the P4 text" in docs/FORMATS.md, that a program in memory stands for.
use Rattle.std.specs.Prelude.{List, [], ◌∷◌, map}
use Rattle.cocoon_num.specs.Values.{UnaryOp, flip, not_, BinaryOp, add, sub, bits_and, bits_or, bits_xor, concat, equal, unequal, less, less_equal, greater, greater_equal, and_, or_}
use Rattle.p4_ir.specs.P4Tree as tree
use Rattle.p4_ir.specs.declared.program.P4Unary.{P4Unary}
use Rattle.p4_ir.specs.declared.program.P4Unary.TheVariants.{Flip, Not}
use Rattle.p4_ir.specs.declared.program.P4Binary.{P4Binary}
use Rattle.p4_ir.specs.declared.program.P4Binary.TheVariants.{Add, Sub, BitAnd, BitOr, BitXor, Concat, Equal, Unequal, Less, LessEqual, Greater, GreaterEqual, And, Or}
use Rattle.p4_ir.specs.declared.program.P4Expr.{P4Expr, fold-P4Expr}
use Rattle.p4_ir.specs.declared.program.P4Expr.TheOpen.{P4Expr-F}
use Rattle.p4_ir.specs.declared.program.P4Stmt.{P4Stmt, fold-P4Stmt}
use Rattle.p4_ir.specs.declared.program.P4Stmt.TheOpen.{P4Stmt-F}
use Rattle.p4_ir.specs.declared.program.P4Field.{P4Field}
use Rattle.p4_ir.specs.declared.program.P4Header.{P4Header}
use Rattle.p4_ir.specs.declared.program.Table.{Table}
use Rattle.p4_ir.specs.declared.program.Control.{Control}
use Rattle.p4_ir.specs.declared.program.Program.{Program}

abbrev pub unary_of : P4Unary → UnaryOp
unary_of Flip = flip
unary_of Not = not_

abbrev pub binary_of : P4Binary → BinaryOp
binary_of Add = add
binary_of Sub = sub
binary_of BitAnd = bits_and
binary_of BitOr = bits_or
binary_of BitXor = bits_xor
binary_of Concat = concat
binary_of Equal = equal
binary_of Unequal = unequal
binary_of Less = less
binary_of LessEqual = less_equal
binary_of Greater = greater
binary_of GreaterEqual = greater_equal
binary_of And = and_
binary_of Or = or_

-- one level, with each tree inside already seen
abbrev pub expr_step : P4Expr-F tree.P4Expr → tree.P4Expr
expr_step (P4Expr-F.Lit b) = tree.p_lit b.width b.value
expr_step (P4Expr-F.Truth b) = tree.p_truth b
expr_step (P4Expr-F.Meta i) = tree.p_meta i
expr_step (P4Expr-F.Field h f) = tree.p_field h f
expr_step P4Expr-F.Port = tree.p_port
expr_step P4Expr-F.Rid = tree.p_rid
expr_step (P4Expr-F.Unary op a) = tree.p_unary (unary_of op) a.value
expr_step (P4Expr-F.Binary op a b) = tree.p_binary (binary_of op) a.value b.value
expr_step (P4Expr-F.Slice a high low) = tree.p_slice a.value high low
expr_step (P4Expr-F.Pick c a b) = tree.p_pick c.value a.value b.value

abbrev pub expr_of : P4Expr → tree.P4Expr
expr_of = fold-P4Expr tree.P4Expr expr_step

abbrev pub block_of : List tree.P4Stmt → tree.P4Block
block_of [] = tree.p_done
block_of (s ∷ ss) = tree.p_then s (block_of ss)

abbrev pub stmt_step : P4Stmt-F tree.P4Stmt → tree.P4Stmt
stmt_step (P4Stmt-F.SetMeta i e) = tree.set_meta i (expr_of e)
stmt_step (P4Stmt-F.SetField h f e) = tree.set_header h f (expr_of e)
stmt_step (P4Stmt-F.Apply n) = tree.apply_table n
stmt_step (P4Stmt-F.If e a) = tree.p_if (expr_of e) (block_of a.items)
stmt_step (P4Stmt-F.IfElse e a b) = tree.p_if_else (expr_of e) (block_of a.items) (block_of b.items)
stmt_step (P4Stmt-F.Verdict n) = tree.verdict n
stmt_step (P4Stmt-F.EgressPort e) = tree.egress_port (expr_of e)
stmt_step (P4Stmt-F.Group e) = tree.group (expr_of e)
stmt_step P4Stmt-F.Return = tree.p_return

abbrev pub stmt_of : P4Stmt → tree.P4Stmt
stmt_of = fold-P4Stmt tree.P4Stmt stmt_step

abbrev pub field_of : P4Field → tree.P4Field
field_of f = record { name = f.name; width = f.width }

abbrev pub header_of : P4Header → tree.P4Header
header_of h = record { name = h.name; fields = map field_of h.fields }

abbrev pub table_of : Table → tree.P4Table
table_of t = record { number = t.number; exact = t.exact; keys = t.keys; result = t.result }

abbrev pub control_of : Control → tree.Control
control_of c = record { tables = map table_of c.tables; body = block_of (map stmt_of c.body) }

abbrev pub program_of : Program → tree.Program
program_of p = record { headers = map header_of p.headers; meta = map field_of p.meta; ingress = control_of p.ingress; egress = control_of p.egress }
