-- A part beside which no part of its form stands is beside itself.
use Rattle.std.proofs.Common.{◌≡◌, ℕ, List, [], ◌∷◌, Box, Vec, Global, length, map, refl, sym, ap, ap₂, subst, ◌∙◌}
use Rattle.cocoon_num.specs.declared.bits.Bits.{Bits}
use Rattle.p4_ir.specs.P4Tree.{P4Expr, p_lit, p_unary, p_binary, p_slice, p_pick, P4Stmt, set_meta, set_header, p_if, p_if_else, egress_port, group, P4Block, p_done, p_then}
use Rattle.p4_ir.specs.Program.{block_of, expr_of, expr_step, stmt_of, stmt_step}
use Rattle.p4_ir.specs.declared.program.P4Unary.{P4Unary}
use Rattle.p4_ir.specs.declared.program.P4Binary.{P4Binary}
use Rattle.p4_ir.specs.declared.program.P4Expr.{P4Expr as CodeExpr, fold_out-P4Expr, map-P4Expr, out-P4Expr, roll-P4Expr, roll-out-P4Expr}
use Rattle.p4_ir.specs.declared.program.P4Expr.TheOpen.{P4Expr-F}
use Rattle.p4_ir.specs.declared.program.P4Expr.TheVariants as exprs
use Rattle.p4_ir.specs.declared.program.P4Stmt.{P4Stmt as CodeStmt, fold_out-P4Stmt, map-P4Stmt, out-P4Stmt, roll-P4Stmt, roll-out-P4Stmt}
use Rattle.p4_ir.specs.declared.program.P4Stmt.TheOpen.{P4Stmt-F}
use Rattle.p4_ir.specs.declared.program.P4Stmt.TheVariants as stmts
use Rattle.shared_net.specs.Beside.{AsBinary, AsChoice, AsFirst, AsGroup, AsHeader, AsIf, AsIfElse, AsMeta, AsPort, AsSlice, AsUnary}
use Rattle.shared_net.specs.Merging.{expr_merged}
use Rattle.shared_net.proofs.Same.{all_same, same_block, same_expr, same_stmt}

-- ---- expressions

-- what holds of each layer holds of an expression
expr_by : (P : P4Expr → Type 0) (e : CodeExpr) → ((y : P4Expr-F CodeExpr) → out-P4Expr e ≡ y → P (expr_step (map-P4Expr CodeExpr P4Expr expr_of y))) → P (expr_of e)
expr_by P e h = subst P (sym (fold_out-P4Expr P4Expr expr_step e)) (h (out-P4Expr e) refl)

expr_made : (e : CodeExpr) (y : P4Expr-F CodeExpr) → out-P4Expr e ≡ y → e ≡ roll-P4Expr y
expr_made e y h = sym (roll-out-P4Expr e) ∙ ap roll-P4Expr h

lit_layer : (s w n : ℕ) (e : CodeExpr) → ((k0 : Bits) → e ≡ exprs.Lit k0 → ⊥) → (y : P4Expr-F CodeExpr) → out-P4Expr e ≡ y → expr_merged s (p_lit w n) (expr_step (map-P4Expr CodeExpr P4Expr expr_of y)) ≡ p_lit w n
lit_layer s w n e other (P4Expr-F.Lit k0) is = absurd (other k0 (expr_made e (P4Expr-F.Lit k0) is ∙ exprs.rolls-Lit k0))
lit_layer s w n e other y is = refl

pub lone_lit : (s w n : ℕ) (e : CodeExpr) → ((k0 : Bits) → e ≡ exprs.Lit k0 → ⊥) → expr_merged s (p_lit w n) (expr_of e) ≡ p_lit w n
lone_lit s w n e other = expr_by (λ o. expr_merged s (p_lit w n) o ≡ p_lit w n) e (lit_layer s w n e other)

unary_layer : (a : P4Expr) (e : CodeExpr) → ((k0 : P4Unary) (k1 : Box CodeExpr Global) → e ≡ exprs.Unary k0 k1 → ⊥) → (y : P4Expr-F CodeExpr) → out-P4Expr e ≡ y → AsUnary a (expr_step (map-P4Expr CodeExpr P4Expr expr_of y)) a
unary_layer a e other (P4Expr-F.Unary k0 k1) is = absurd (other k0 k1 (expr_made e (P4Expr-F.Unary k0 k1) is ∙ exprs.rolls-Unary k0 k1))
unary_layer a e other y is = λ s op. ap (p_unary op) (sym (same_expr s a))

pub lone_unary : (a : P4Expr) (e : CodeExpr) → ((k0 : P4Unary) (k1 : Box CodeExpr Global) → e ≡ exprs.Unary k0 k1 → ⊥) → AsUnary a (expr_of e) a
lone_unary a e other = expr_by (λ o. AsUnary a o a) e (unary_layer a e other)

binary_layer : (a b : P4Expr) (e : CodeExpr) → ((k0 : P4Binary) (k1 : Box CodeExpr Global) (k2 : Box CodeExpr Global) → e ≡ exprs.Binary k0 k1 k2 → ⊥) → (y : P4Expr-F CodeExpr) → out-P4Expr e ≡ y → AsBinary a b (expr_step (map-P4Expr CodeExpr P4Expr expr_of y)) a b
binary_layer a b e other (P4Expr-F.Binary k0 k1 k2) is = absurd (other k0 k1 k2 (expr_made e (P4Expr-F.Binary k0 k1 k2) is ∙ exprs.rolls-Binary k0 k1 k2))
binary_layer a b e other y is = λ s op. ap₂ (p_binary op) (sym (same_expr s a)) (sym (same_expr s b))

pub lone_binary : (a b : P4Expr) (e : CodeExpr) → ((k0 : P4Binary) (k1 : Box CodeExpr Global) (k2 : Box CodeExpr Global) → e ≡ exprs.Binary k0 k1 k2 → ⊥) → AsBinary a b (expr_of e) a b
lone_binary a b e other = expr_by (λ o. AsBinary a b o a b) e (binary_layer a b e other)

slice_layer : (a : P4Expr) (e : CodeExpr) → ((k0 : Box CodeExpr Global) (k1 : ℕ) (k2 : ℕ) → e ≡ exprs.Slice k0 k1 k2 → ⊥) → (y : P4Expr-F CodeExpr) → out-P4Expr e ≡ y → AsSlice a (expr_step (map-P4Expr CodeExpr P4Expr expr_of y)) a
slice_layer a e other (P4Expr-F.Slice k0 k1 k2) is = absurd (other k0 k1 k2 (expr_made e (P4Expr-F.Slice k0 k1 k2) is ∙ exprs.rolls-Slice k0 k1 k2))
slice_layer a e other y is = λ s high low. ap (λ x. p_slice x high low) (sym (same_expr s a))

pub lone_slice : (a : P4Expr) (e : CodeExpr) → ((k0 : Box CodeExpr Global) (k1 : ℕ) (k2 : ℕ) → e ≡ exprs.Slice k0 k1 k2 → ⊥) → AsSlice a (expr_of e) a
lone_slice a e other = expr_by (λ o. AsSlice a o a) e (slice_layer a e other)

choice_layer : (c a b : P4Expr) (e : CodeExpr) → ((k0 : Box CodeExpr Global) (k1 : Box CodeExpr Global) (k2 : Box CodeExpr Global) → e ≡ exprs.Pick k0 k1 k2 → ⊥) → (y : P4Expr-F CodeExpr) → out-P4Expr e ≡ y → AsChoice c a b (expr_step (map-P4Expr CodeExpr P4Expr expr_of y)) c a b
choice_layer c a b e other (P4Expr-F.Pick k0 k1 k2) is = absurd (other k0 k1 k2 (expr_made e (P4Expr-F.Pick k0 k1 k2) is ∙ exprs.rolls-Pick k0 k1 k2))
choice_layer c a b e other y is = λ s. all_same p_pick (sym (same_expr s c)) (sym (same_expr s a)) (sym (same_expr s b))

pub lone_choice : (c a b : P4Expr) (e : CodeExpr) → ((k0 : Box CodeExpr Global) (k1 : Box CodeExpr Global) (k2 : Box CodeExpr Global) → e ≡ exprs.Pick k0 k1 k2 → ⊥) → AsChoice c a b (expr_of e) c a b
lone_choice c a b e other = expr_by (λ o. AsChoice c a b o c a b) e (choice_layer c a b e other)

-- ---- statements

stmt_by : (P : P4Stmt → Type 0) (e : CodeStmt) → ((y : P4Stmt-F CodeStmt) → out-P4Stmt e ≡ y → P (stmt_step (map-P4Stmt CodeStmt P4Stmt stmt_of y))) → P (stmt_of e)
stmt_by P e h = subst P (sym (fold_out-P4Stmt P4Stmt stmt_step e)) (h (out-P4Stmt e) refl)

stmt_made : (e : CodeStmt) (y : P4Stmt-F CodeStmt) → out-P4Stmt e ≡ y → e ≡ roll-P4Stmt y
stmt_made e y h = sym (roll-out-P4Stmt e) ∙ ap roll-P4Stmt h

meta_layer : (a : P4Expr) (e : CodeStmt) → ((k0 : ℕ) (k1 : CodeExpr) → e ≡ stmts.SetMeta k0 k1 → ⊥) → (y : P4Stmt-F CodeStmt) → out-P4Stmt e ≡ y → AsMeta a (stmt_step (map-P4Stmt CodeStmt P4Stmt stmt_of y)) a
meta_layer a e other (P4Stmt-F.SetMeta k0 k1) is = absurd (other k0 k1 (stmt_made e (P4Stmt-F.SetMeta k0 k1) is ∙ stmts.rolls-SetMeta k0 k1))
meta_layer a e other y is = λ s i. ap (set_meta i) (sym (same_expr s a))

pub lone_meta : (a : P4Expr) (e : CodeStmt) → ((k0 : ℕ) (k1 : CodeExpr) → e ≡ stmts.SetMeta k0 k1 → ⊥) → AsMeta a (stmt_of e) a
lone_meta a e other = stmt_by (λ o. AsMeta a o a) e (meta_layer a e other)

field_layer : (a : P4Expr) (e : CodeStmt) → ((k0 : ℕ) (k1 : ℕ) (k2 : CodeExpr) → e ≡ stmts.SetField k0 k1 k2 → ⊥) → (y : P4Stmt-F CodeStmt) → out-P4Stmt e ≡ y → AsHeader a (stmt_step (map-P4Stmt CodeStmt P4Stmt stmt_of y)) a
field_layer a e other (P4Stmt-F.SetField k0 k1 k2) is = absurd (other k0 k1 k2 (stmt_made e (P4Stmt-F.SetField k0 k1 k2) is ∙ stmts.rolls-SetField k0 k1 k2))
field_layer a e other y is = λ s h f. ap (set_header h f) (sym (same_expr s a))

pub lone_field : (a : P4Expr) (e : CodeStmt) → ((k0 : ℕ) (k1 : ℕ) (k2 : CodeExpr) → e ≡ stmts.SetField k0 k1 k2 → ⊥) → AsHeader a (stmt_of e) a
lone_field a e other = stmt_by (λ o. AsHeader a o a) e (field_layer a e other)

port_layer : (a : P4Expr) (e : CodeStmt) → ((k0 : CodeExpr) → e ≡ stmts.EgressPort k0 → ⊥) → (y : P4Stmt-F CodeStmt) → out-P4Stmt e ≡ y → AsPort a (stmt_step (map-P4Stmt CodeStmt P4Stmt stmt_of y)) a
port_layer a e other (P4Stmt-F.EgressPort k0) is = absurd (other k0 (stmt_made e (P4Stmt-F.EgressPort k0) is ∙ stmts.rolls-EgressPort k0))
port_layer a e other y is = λ s. ap egress_port (sym (same_expr s a))

pub lone_port : (a : P4Expr) (e : CodeStmt) → ((k0 : CodeExpr) → e ≡ stmts.EgressPort k0 → ⊥) → AsPort a (stmt_of e) a
lone_port a e other = stmt_by (λ o. AsPort a o a) e (port_layer a e other)

group_layer : (a : P4Expr) (e : CodeStmt) → ((k0 : CodeExpr) → e ≡ stmts.Group k0 → ⊥) → (y : P4Stmt-F CodeStmt) → out-P4Stmt e ≡ y → AsGroup a (stmt_step (map-P4Stmt CodeStmt P4Stmt stmt_of y)) a
group_layer a e other (P4Stmt-F.Group k0) is = absurd (other k0 (stmt_made e (P4Stmt-F.Group k0) is ∙ stmts.rolls-Group k0))
group_layer a e other y is = λ s. ap group (sym (same_expr s a))

pub lone_group : (a : P4Expr) (e : CodeStmt) → ((k0 : CodeExpr) → e ≡ stmts.Group k0 → ⊥) → AsGroup a (stmt_of e) a
lone_group a e other = stmt_by (λ o. AsGroup a o a) e (group_layer a e other)

if_layer : (c : P4Expr) (a : P4Block) (e : CodeStmt) → ((k0 : CodeExpr) (k1 : Vec CodeStmt Global) → e ≡ stmts.If k0 k1 → ⊥) → (y : P4Stmt-F CodeStmt) → out-P4Stmt e ≡ y → AsIf c a (stmt_step (map-P4Stmt CodeStmt P4Stmt stmt_of y)) c a
if_layer c a e other (P4Stmt-F.If k0 k1) is = absurd (other k0 k1 (stmt_made e (P4Stmt-F.If k0 k1) is ∙ stmts.rolls-If k0 k1))
if_layer c a e other y is = λ s. ap₂ p_if (sym (same_expr s c)) (sym (same_block s a))

pub lone_if : (c : P4Expr) (a : P4Block) (e : CodeStmt) → ((k0 : CodeExpr) (k1 : Vec CodeStmt Global) → e ≡ stmts.If k0 k1 → ⊥) → AsIf c a (stmt_of e) c a
lone_if c a e other = stmt_by (λ o. AsIf c a o c a) e (if_layer c a e other)

if_else_layer : (c : P4Expr) (a b : P4Block) (e : CodeStmt) → ((k0 : CodeExpr) (k1 : Vec CodeStmt Global) (k2 : Vec CodeStmt Global) → e ≡ stmts.IfElse k0 k1 k2 → ⊥) → (y : P4Stmt-F CodeStmt) → out-P4Stmt e ≡ y → AsIfElse c a b (stmt_step (map-P4Stmt CodeStmt P4Stmt stmt_of y)) c a b
if_else_layer c a b e other (P4Stmt-F.IfElse k0 k1 k2) is = absurd (other k0 k1 k2 (stmt_made e (P4Stmt-F.IfElse k0 k1 k2) is ∙ stmts.rolls-IfElse k0 k1 k2))
if_else_layer c a b e other y is = λ s. all_same p_if_else (sym (same_expr s c)) (sym (same_block s a)) (sym (same_block s b))

pub lone_if_else : (c : P4Expr) (a b : P4Block) (e : CodeStmt) → ((k0 : CodeExpr) (k1 : Vec CodeStmt Global) (k2 : Vec CodeStmt Global) → e ≡ stmts.IfElse k0 k1 k2 → ⊥) → AsIfElse c a b (stmt_of e) c a b
lone_if_else c a b e other = stmt_by (λ o. AsIfElse c a b o c a b) e (if_else_layer c a b e other)

-- a statement beside which none is left is beside itself, and nothing beside those that follow it
pub lone_first : (a : P4Stmt) (others : List CodeStmt) → length others ≡ 0 → AsFirst a (block_of (map stmt_of others)) a (block_of (map stmt_of others))
lone_first a [] e s p_done = ap (λ x. p_then x p_done) (sym (same_stmt s a))
lone_first a [] e s (p_then b more) = ap (λ x. p_then x (p_then b more)) (sym (same_stmt s a))
lone_first a (other ∷ others) e s more = cc
