-- Trees of the code, one level at a time, as trees of the definitions.
use Rattle.std.proofs.Common.{◌≡◌, ℕ, Bool, List, Vec, Global, Box, rules, map}
use Rattle.cocoon_num.specs.declared.bits.Bits.{Bits}
use Rattle.p4_ir.specs.Program.{unary_of, binary_of}
use Rattle.p4_ir.specs.Program as ir
use Rattle.p4_ir.specs.P4Tree as tree
use Rattle.p4_ir.specs.declared.program.P4Unary.{P4Unary}
use Rattle.p4_ir.specs.declared.program.P4Binary.{P4Binary}
use Rattle.p4_ir.specs.declared.program.P4Expr as code
use Rattle.p4_ir.specs.declared.program.P4Expr.TheVariants as code_variants
use Rattle.p4_ir.specs.declared.program.P4Stmt as code_stmt
use Rattle.p4_ir.specs.declared.program.P4Stmt.TheVariants as code_stmts
use Rattle.p4_texts.specs.Written as text
use Rattle.p4_texts.specs.TreeOf.{body_of, expr_of, stmt_of}
use Rattle.p4_texts.specs.declared.written.WrittenExpr.{WrittenExpr}
use Rattle.p4_texts.specs.declared.written.WrittenExpr as expr
use Rattle.p4_texts.specs.declared.written.WrittenExpr.TheVariants as variants
use Rattle.p4_texts.specs.declared.written.WrittenStmt.{WrittenStmt}
use Rattle.p4_texts.specs.declared.written.WrittenStmt as stmt
use Rattle.p4_texts.specs.declared.written.WrittenStmt.TheVariants as stmts

pub lit_is : (b : Bits) → expr_of (variants.Lit b) ≡ text.w_lit b.width b.value
lit_is b = search (rules, expr.the_lemmas)

pub truth_is : (b : Bool) → expr_of (variants.Truth b) ≡ text.w_truth b
truth_is b = search (rules, expr.the_lemmas)

pub port_is : expr_of variants.Port ≡ text.w_port
port_is = search (rules, expr.the_lemmas)

pub rid_is : expr_of variants.Rid ≡ text.w_rid
rid_is = search (rules, expr.the_lemmas)

pub unary_is : (op : P4Unary) (a : Box WrittenExpr Global) → expr_of (variants.Unary op a) ≡ text.w_unary (unary_of op) (expr_of a.value)
unary_is op a = search (rules, expr.the_lemmas)

pub binary_is : (op : P4Binary) (a b : Box WrittenExpr Global) → expr_of (variants.Binary op a b) ≡ text.w_binary op (expr_of a.value) (expr_of b.value)
binary_is op a b = search (rules, expr.the_lemmas)

pub slice_is : (a : Box WrittenExpr Global) (high low : ℕ) → expr_of (variants.Slice a high low) ≡ text.w_slice (expr_of a.value) high low
slice_is a high low = search (rules, expr.the_lemmas)

pub pick_is : (c a b : Box WrittenExpr Global) → expr_of (variants.Pick c a b) ≡ text.w_pick (expr_of c.value) (expr_of a.value) (expr_of b.value)
pick_is c a b = search (rules, expr.the_lemmas)

pub meta_expr : (i : ℕ) → ir.expr_of (code_variants.Meta i) ≡ tree.p_meta i
meta_expr i = search (rules, code.the_lemmas)

pub field_expr : (h f : ℕ) → ir.expr_of (code_variants.Field h f) ≡ tree.p_field h f
field_expr h f = search (rules, code.the_lemmas)

-- ---- statements

pub set_meta_code : (i : ℕ) (e : code.P4Expr) → ir.stmt_of (code_stmts.SetMeta i e) ≡ tree.set_meta i (ir.expr_of e)
set_meta_code i e = search (rules, code_stmt.the_lemmas)

pub set_field_code : (h f : ℕ) (e : code.P4Expr) → ir.stmt_of (code_stmts.SetField h f e) ≡ tree.set_header h f (ir.expr_of e)
set_field_code h f e = search (rules, code_stmt.the_lemmas)

pub egress_port_code : (e : code.P4Expr) → ir.stmt_of (code_stmts.EgressPort e) ≡ tree.egress_port (ir.expr_of e)
egress_port_code e = search (rules, code_stmt.the_lemmas)

pub group_code : (e : code.P4Expr) → ir.stmt_of (code_stmts.Group e) ≡ tree.group (ir.expr_of e)
group_code e = search (rules, code_stmt.the_lemmas)

pub apply_code : (n : ℕ) → ir.stmt_of (code_stmts.Apply n) ≡ tree.apply_table n
apply_code n = search (rules, code_stmt.the_lemmas)

pub verdict_code : (n : ℕ) → ir.stmt_of (code_stmts.Verdict n) ≡ tree.verdict n
verdict_code n = search (rules, code_stmt.the_lemmas)

pub return_code : ir.stmt_of code_stmts.Return ≡ tree.p_return
return_code = search (rules, code_stmt.the_lemmas)

pub if_code : (e : code.P4Expr) (a : Vec code_stmt.P4Stmt Global) → ir.stmt_of (code_stmts.If e a) ≡ tree.p_if (ir.expr_of e) (ir.block_of (map ir.stmt_of a.items))
if_code e a = search (rules, code_stmt.the_lemmas)

pub if_else_code : (e : code.P4Expr) (a b : Vec code_stmt.P4Stmt Global) → ir.stmt_of (code_stmts.IfElse e a b) ≡ tree.p_if_else (ir.expr_of e) (ir.block_of (map ir.stmt_of a.items)) (ir.block_of (map ir.stmt_of b.items))
if_else_code e a b = search (rules, code_stmt.the_lemmas)

pub set_meta_is : (x : List ℕ) (v : WrittenExpr) → stmt_of (stmts.SetMeta x v) ≡ text.w_set_meta x (expr_of v)
set_meta_is x v = search (rules, stmt.the_lemmas)

pub set_field_is : (x y : List ℕ) (v : WrittenExpr) → stmt_of (stmts.SetField x y v) ≡ text.w_set_field x y (expr_of v)
set_field_is x y v = search (rules, stmt.the_lemmas)

pub apply_is : (x : List ℕ) → stmt_of (stmts.Apply x) ≡ text.w_apply x
apply_is x = search (rules, stmt.the_lemmas)

pub if_is : (v : WrittenExpr) (a : Vec WrittenStmt Global) → stmt_of (stmts.If v a) ≡ text.w_if (expr_of v) (body_of a.items)
if_is v a = search (rules, stmt.the_lemmas)

pub if_else_is : (v : WrittenExpr) (a b : Vec WrittenStmt Global) → stmt_of (stmts.IfElse v a b) ≡ text.w_if_else (expr_of v) (body_of a.items) (body_of b.items)
if_else_is v a b = search (rules, stmt.the_lemmas)

pub verdict_is : (b : Bits) → stmt_of (stmts.Verdict b) ≡ text.w_verdict b.width b.value
verdict_is b = search (rules, stmt.the_lemmas)

pub egress_port_is : (v : WrittenExpr) → stmt_of (stmts.EgressPort v) ≡ text.w_egress_port (expr_of v)
egress_port_is v = search (rules, stmt.the_lemmas)

pub group_is : (v : WrittenExpr) → stmt_of (stmts.Group v) ≡ text.w_group (expr_of v)
group_is v = search (rules, stmt.the_lemmas)

pub return_is : stmt_of stmts.Return ≡ text.w_return
return_is = search (rules, stmt.the_lemmas)
