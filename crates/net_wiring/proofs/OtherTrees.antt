-- A tree of the code that is not made by a variant is not the same as one that is.
use Rattle.std.proofs.Common.{◌≡◌, ℕ, Bool, false, Box, Vec, Global, refl, sym, ap, ◌∙◌}
use Rattle.cocoon_num.specs.Values.{UnaryOp, BinaryOp}
use Rattle.cocoon_num.specs.declared.bits.Bits.{Bits}
use Rattle.p4_ir.specs.P4Tree.{P4Expr, p_lit, p_truth, p_meta, p_field, p_unary, p_binary, p_slice, p_pick, P4Stmt, set_meta, set_header, apply_table, p_if, p_if_else, verdict, egress_port, group, P4Block}
use Rattle.p4_ir.specs.Program.{expr_of, expr_step, stmt_of, stmt_step}
use Rattle.p4_ir.specs.declared.program.P4Unary.{P4Unary}
use Rattle.p4_ir.specs.declared.program.P4Binary.{P4Binary}
use Rattle.p4_ir.specs.declared.program.P4Expr.{P4Expr as CodeExpr, fold_out-P4Expr, map-P4Expr, out-P4Expr, roll-P4Expr, roll-out-P4Expr}
use Rattle.p4_ir.specs.declared.program.P4Expr.TheOpen.{P4Expr-F}
use Rattle.p4_ir.specs.declared.program.P4Expr.TheVariants as exprs
use Rattle.p4_ir.specs.declared.program.P4Stmt.{P4Stmt as CodeStmt, fold_out-P4Stmt, map-P4Stmt, out-P4Stmt, roll-P4Stmt, roll-out-P4Stmt}
use Rattle.p4_ir.specs.declared.program.P4Stmt.TheOpen.{P4Stmt-F}
use Rattle.p4_ir.specs.declared.program.P4Stmt.TheVariants as stmts
use Rattle.net_wiring.specs.SameTrees.{same_expr, same_stmt}

-- ---- expressions

expr-other : (x : P4Expr) (e : CodeExpr) → ((y : P4Expr-F CodeExpr) → out-P4Expr e ≡ y → false ≡ same_expr x (expr_step (map-P4Expr CodeExpr P4Expr expr_of y))) → false ≡ same_expr x (expr_of e)
expr-other x e h = h (out-P4Expr e) refl ∙ ap (same_expr x) (sym (fold_out-P4Expr P4Expr expr_step e))

expr-made : (e : CodeExpr) (y : P4Expr-F CodeExpr) → out-P4Expr e ≡ y → e ≡ roll-P4Expr y
expr-made e y h = sym (roll-out-P4Expr e) ∙ ap roll-P4Expr h

lit-layer : (w n : ℕ) (e : CodeExpr) → ((b : Bits) → e ≡ exprs.Lit b → ⊥) → (y : P4Expr-F CodeExpr) → out-P4Expr e ≡ y → false ≡ same_expr (p_lit w n) (expr_step (map-P4Expr CodeExpr P4Expr expr_of y))
lit-layer w n e other (P4Expr-F.Lit k0) is = absurd (other k0 (expr-made e (P4Expr-F.Lit k0) is ∙ exprs.rolls-Lit k0))
lit-layer w n e other y is = refl

pub no-lit : (w n : ℕ) (e : CodeExpr) → ((b : Bits) → e ≡ exprs.Lit b → ⊥) → false ≡ same_expr (p_lit w n) (expr_of e)
no-lit w n e other = expr-other (p_lit w n) e (lit-layer w n e other)

truth-layer : (b : Bool) (e : CodeExpr) → ((d : Bool) → e ≡ exprs.Truth d → ⊥) → (y : P4Expr-F CodeExpr) → out-P4Expr e ≡ y → false ≡ same_expr (p_truth b) (expr_step (map-P4Expr CodeExpr P4Expr expr_of y))
truth-layer b e other (P4Expr-F.Truth k0) is = absurd (other k0 (expr-made e (P4Expr-F.Truth k0) is ∙ exprs.rolls-Truth k0))
truth-layer b e other y is = refl

pub no-truth : (b : Bool) (e : CodeExpr) → ((d : Bool) → e ≡ exprs.Truth d → ⊥) → false ≡ same_expr (p_truth b) (expr_of e)
no-truth b e other = expr-other (p_truth b) e (truth-layer b e other)

meta-layer : (i : ℕ) (e : CodeExpr) → ((j : ℕ) → e ≡ exprs.Meta j → ⊥) → (y : P4Expr-F CodeExpr) → out-P4Expr e ≡ y → false ≡ same_expr (p_meta i) (expr_step (map-P4Expr CodeExpr P4Expr expr_of y))
meta-layer i e other (P4Expr-F.Meta k0) is = absurd (other k0 (expr-made e (P4Expr-F.Meta k0) is ∙ exprs.rolls-Meta k0))
meta-layer i e other y is = refl

pub no-meta : (i : ℕ) (e : CodeExpr) → ((j : ℕ) → e ≡ exprs.Meta j → ⊥) → false ≡ same_expr (p_meta i) (expr_of e)
no-meta i e other = expr-other (p_meta i) e (meta-layer i e other)

field-layer : (h f : ℕ) (e : CodeExpr) → ((i g : ℕ) → e ≡ exprs.Field i g → ⊥) → (y : P4Expr-F CodeExpr) → out-P4Expr e ≡ y → false ≡ same_expr (p_field h f) (expr_step (map-P4Expr CodeExpr P4Expr expr_of y))
field-layer h f e other (P4Expr-F.Field k0 k1) is = absurd (other k0 k1 (expr-made e (P4Expr-F.Field k0 k1) is ∙ exprs.rolls-Field k0 k1))
field-layer h f e other y is = refl

pub no-field : (h f : ℕ) (e : CodeExpr) → ((i g : ℕ) → e ≡ exprs.Field i g → ⊥) → false ≡ same_expr (p_field h f) (expr_of e)
no-field h f e other = expr-other (p_field h f) e (field-layer h f e other)

unary-layer : (op : UnaryOp) (a : P4Expr) (e : CodeExpr) → ((o : P4Unary) (b : Box CodeExpr Global) → e ≡ exprs.Unary o b → ⊥) → (y : P4Expr-F CodeExpr) → out-P4Expr e ≡ y → false ≡ same_expr (p_unary op a) (expr_step (map-P4Expr CodeExpr P4Expr expr_of y))
unary-layer op a e other (P4Expr-F.Unary k0 k1) is = absurd (other k0 k1 (expr-made e (P4Expr-F.Unary k0 k1) is ∙ exprs.rolls-Unary k0 k1))
unary-layer op a e other y is = refl

pub no-unary : (op : UnaryOp) (a : P4Expr) (e : CodeExpr) → ((o : P4Unary) (b : Box CodeExpr Global) → e ≡ exprs.Unary o b → ⊥) → false ≡ same_expr (p_unary op a) (expr_of e)
no-unary op a e other = expr-other (p_unary op a) e (unary-layer op a e other)

binary-layer : (op : BinaryOp) (a b : P4Expr) (e : CodeExpr) → ((o : P4Binary) (x y : Box CodeExpr Global) → e ≡ exprs.Binary o x y → ⊥) → (y : P4Expr-F CodeExpr) → out-P4Expr e ≡ y → false ≡ same_expr (p_binary op a b) (expr_step (map-P4Expr CodeExpr P4Expr expr_of y))
binary-layer op a b e other (P4Expr-F.Binary k0 k1 k2) is = absurd (other k0 k1 k2 (expr-made e (P4Expr-F.Binary k0 k1 k2) is ∙ exprs.rolls-Binary k0 k1 k2))
binary-layer op a b e other y is = refl

pub no-binary : (op : BinaryOp) (a b : P4Expr) (e : CodeExpr) → ((o : P4Binary) (x y : Box CodeExpr Global) → e ≡ exprs.Binary o x y → ⊥) → false ≡ same_expr (p_binary op a b) (expr_of e)
no-binary op a b e other = expr-other (p_binary op a b) e (binary-layer op a b e other)

slice-layer : (a : P4Expr) (high low : ℕ) (e : CodeExpr) → ((x : Box CodeExpr Global) (i j : ℕ) → e ≡ exprs.Slice x i j → ⊥) → (y : P4Expr-F CodeExpr) → out-P4Expr e ≡ y → false ≡ same_expr (p_slice a high low) (expr_step (map-P4Expr CodeExpr P4Expr expr_of y))
slice-layer a high low e other (P4Expr-F.Slice k0 k1 k2) is = absurd (other k0 k1 k2 (expr-made e (P4Expr-F.Slice k0 k1 k2) is ∙ exprs.rolls-Slice k0 k1 k2))
slice-layer a high low e other y is = refl

pub no-slice : (a : P4Expr) (high low : ℕ) (e : CodeExpr) → ((x : Box CodeExpr Global) (i j : ℕ) → e ≡ exprs.Slice x i j → ⊥) → false ≡ same_expr (p_slice a high low) (expr_of e)
no-slice a high low e other = expr-other (p_slice a high low) e (slice-layer a high low e other)

pick-layer : (c a b : P4Expr) (e : CodeExpr) → ((x y z : Box CodeExpr Global) → e ≡ exprs.Pick x y z → ⊥) → (y : P4Expr-F CodeExpr) → out-P4Expr e ≡ y → false ≡ same_expr (p_pick c a b) (expr_step (map-P4Expr CodeExpr P4Expr expr_of y))
pick-layer c a b e other (P4Expr-F.Pick k0 k1 k2) is = absurd (other k0 k1 k2 (expr-made e (P4Expr-F.Pick k0 k1 k2) is ∙ exprs.rolls-Pick k0 k1 k2))
pick-layer c a b e other y is = refl

pub no-pick : (c a b : P4Expr) (e : CodeExpr) → ((x y z : Box CodeExpr Global) → e ≡ exprs.Pick x y z → ⊥) → false ≡ same_expr (p_pick c a b) (expr_of e)
no-pick c a b e other = expr-other (p_pick c a b) e (pick-layer c a b e other)

-- ---- statements

stmt-other : (x : P4Stmt) (e : CodeStmt) → ((y : P4Stmt-F CodeStmt) → out-P4Stmt e ≡ y → false ≡ same_stmt x (stmt_step (map-P4Stmt CodeStmt P4Stmt stmt_of y))) → false ≡ same_stmt x (stmt_of e)
stmt-other x e h = h (out-P4Stmt e) refl ∙ ap (same_stmt x) (sym (fold_out-P4Stmt P4Stmt stmt_step e))

stmt-made : (e : CodeStmt) (y : P4Stmt-F CodeStmt) → out-P4Stmt e ≡ y → e ≡ roll-P4Stmt y
stmt-made e y h = sym (roll-out-P4Stmt e) ∙ ap roll-P4Stmt h

set-meta-layer : (i : ℕ) (a : P4Expr) (e : CodeStmt) → ((j : ℕ) (b : CodeExpr) → e ≡ stmts.SetMeta j b → ⊥) → (y : P4Stmt-F CodeStmt) → out-P4Stmt e ≡ y → false ≡ same_stmt (set_meta i a) (stmt_step (map-P4Stmt CodeStmt P4Stmt stmt_of y))
set-meta-layer i a e other (P4Stmt-F.SetMeta k0 k1) is = absurd (other k0 k1 (stmt-made e (P4Stmt-F.SetMeta k0 k1) is ∙ stmts.rolls-SetMeta k0 k1))
set-meta-layer i a e other y is = refl

pub no-set-meta : (i : ℕ) (a : P4Expr) (e : CodeStmt) → ((j : ℕ) (b : CodeExpr) → e ≡ stmts.SetMeta j b → ⊥) → false ≡ same_stmt (set_meta i a) (stmt_of e)
no-set-meta i a e other = stmt-other (set_meta i a) e (set-meta-layer i a e other)

set-field-layer : (h f : ℕ) (a : P4Expr) (e : CodeStmt) → ((i g : ℕ) (b : CodeExpr) → e ≡ stmts.SetField i g b → ⊥) → (y : P4Stmt-F CodeStmt) → out-P4Stmt e ≡ y → false ≡ same_stmt (set_header h f a) (stmt_step (map-P4Stmt CodeStmt P4Stmt stmt_of y))
set-field-layer h f a e other (P4Stmt-F.SetField k0 k1 k2) is = absurd (other k0 k1 k2 (stmt-made e (P4Stmt-F.SetField k0 k1 k2) is ∙ stmts.rolls-SetField k0 k1 k2))
set-field-layer h f a e other y is = refl

pub no-set-field : (h f : ℕ) (a : P4Expr) (e : CodeStmt) → ((i g : ℕ) (b : CodeExpr) → e ≡ stmts.SetField i g b → ⊥) → false ≡ same_stmt (set_header h f a) (stmt_of e)
no-set-field h f a e other = stmt-other (set_header h f a) e (set-field-layer h f a e other)

apply-layer : (n : ℕ) (e : CodeStmt) → ((m : ℕ) → e ≡ stmts.Apply m → ⊥) → (y : P4Stmt-F CodeStmt) → out-P4Stmt e ≡ y → false ≡ same_stmt (apply_table n) (stmt_step (map-P4Stmt CodeStmt P4Stmt stmt_of y))
apply-layer n e other (P4Stmt-F.Apply k0) is = absurd (other k0 (stmt-made e (P4Stmt-F.Apply k0) is ∙ stmts.rolls-Apply k0))
apply-layer n e other y is = refl

pub no-apply : (n : ℕ) (e : CodeStmt) → ((m : ℕ) → e ≡ stmts.Apply m → ⊥) → false ≡ same_stmt (apply_table n) (stmt_of e)
no-apply n e other = stmt-other (apply_table n) e (apply-layer n e other)

if-layer : (c : P4Expr) (a : P4Block) (e : CodeStmt) → ((d : CodeExpr) (x : Vec CodeStmt Global) → e ≡ stmts.If d x → ⊥) → (y : P4Stmt-F CodeStmt) → out-P4Stmt e ≡ y → false ≡ same_stmt (p_if c a) (stmt_step (map-P4Stmt CodeStmt P4Stmt stmt_of y))
if-layer c a e other (P4Stmt-F.If k0 k1) is = absurd (other k0 k1 (stmt-made e (P4Stmt-F.If k0 k1) is ∙ stmts.rolls-If k0 k1))
if-layer c a e other y is = refl

pub no-if : (c : P4Expr) (a : P4Block) (e : CodeStmt) → ((d : CodeExpr) (x : Vec CodeStmt Global) → e ≡ stmts.If d x → ⊥) → false ≡ same_stmt (p_if c a) (stmt_of e)
no-if c a e other = stmt-other (p_if c a) e (if-layer c a e other)

if-else-layer : (c : P4Expr) (a b : P4Block) (e : CodeStmt) → ((d : CodeExpr) (x y : Vec CodeStmt Global) → e ≡ stmts.IfElse d x y → ⊥) → (y : P4Stmt-F CodeStmt) → out-P4Stmt e ≡ y → false ≡ same_stmt (p_if_else c a b) (stmt_step (map-P4Stmt CodeStmt P4Stmt stmt_of y))
if-else-layer c a b e other (P4Stmt-F.IfElse k0 k1 k2) is = absurd (other k0 k1 k2 (stmt-made e (P4Stmt-F.IfElse k0 k1 k2) is ∙ stmts.rolls-IfElse k0 k1 k2))
if-else-layer c a b e other y is = refl

pub no-if-else : (c : P4Expr) (a b : P4Block) (e : CodeStmt) → ((d : CodeExpr) (x y : Vec CodeStmt Global) → e ≡ stmts.IfElse d x y → ⊥) → false ≡ same_stmt (p_if_else c a b) (stmt_of e)
no-if-else c a b e other = stmt-other (p_if_else c a b) e (if-else-layer c a b e other)

verdict-layer : (n : ℕ) (e : CodeStmt) → ((m : ℕ) → e ≡ stmts.Verdict m → ⊥) → (y : P4Stmt-F CodeStmt) → out-P4Stmt e ≡ y → false ≡ same_stmt (verdict n) (stmt_step (map-P4Stmt CodeStmt P4Stmt stmt_of y))
verdict-layer n e other (P4Stmt-F.Verdict k0) is = absurd (other k0 (stmt-made e (P4Stmt-F.Verdict k0) is ∙ stmts.rolls-Verdict k0))
verdict-layer n e other y is = refl

pub no-verdict : (n : ℕ) (e : CodeStmt) → ((m : ℕ) → e ≡ stmts.Verdict m → ⊥) → false ≡ same_stmt (verdict n) (stmt_of e)
no-verdict n e other = stmt-other (verdict n) e (verdict-layer n e other)

egress-layer : (a : P4Expr) (e : CodeStmt) → ((b : CodeExpr) → e ≡ stmts.EgressPort b → ⊥) → (y : P4Stmt-F CodeStmt) → out-P4Stmt e ≡ y → false ≡ same_stmt (egress_port a) (stmt_step (map-P4Stmt CodeStmt P4Stmt stmt_of y))
egress-layer a e other (P4Stmt-F.EgressPort k0) is = absurd (other k0 (stmt-made e (P4Stmt-F.EgressPort k0) is ∙ stmts.rolls-EgressPort k0))
egress-layer a e other y is = refl

pub no-egress : (a : P4Expr) (e : CodeStmt) → ((b : CodeExpr) → e ≡ stmts.EgressPort b → ⊥) → false ≡ same_stmt (egress_port a) (stmt_of e)
no-egress a e other = stmt-other (egress_port a) e (egress-layer a e other)

group-layer : (a : P4Expr) (e : CodeStmt) → ((b : CodeExpr) → e ≡ stmts.Group b → ⊥) → (y : P4Stmt-F CodeStmt) → out-P4Stmt e ≡ y → false ≡ same_stmt (group a) (stmt_step (map-P4Stmt CodeStmt P4Stmt stmt_of y))
group-layer a e other (P4Stmt-F.Group k0) is = absurd (other k0 (stmt-made e (P4Stmt-F.Group k0) is ∙ stmts.rolls-Group k0))
group-layer a e other y is = refl

pub no-group : (a : P4Expr) (e : CodeStmt) → ((b : CodeExpr) → e ≡ stmts.Group b → ⊥) → false ≡ same_stmt (group a) (stmt_of e)
no-group a e other = stmt-other (group a) e (group-layer a e other)
