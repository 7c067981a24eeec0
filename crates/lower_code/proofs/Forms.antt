-- What made expressions and statements stand for.
use Rattle.std.proofs.Common.{◌≡◌, ℕ, List, [], ◌∷◌, ◌++◌, map, ap, ◌∙◌, rules}
use Rattle.std.proofs.lemmas.List.{map-append}
use Rattle.p4_ir.specs.P4Tree as tree
use Rattle.p4_ir.specs.Program.{expr_of, stmt_of}
use Rattle.p4_ir.specs.declared.program.P4Expr as exprs
use Rattle.p4_ir.specs.declared.program.P4Expr.{P4Expr}
use Rattle.p4_ir.specs.declared.program.P4Stmt as stmts
use Rattle.p4_ir.specs.declared.program.P4Stmt.{P4Stmt}

pub meta_form : (i : ℕ) → expr_of (P4Expr.Meta i) ≡ tree.p_meta i
meta_form i = search (rules, exprs.the_lemmas)

pub truth_form : (b : _) → expr_of (P4Expr.Truth b) ≡ tree.p_truth b
truth_form b = search (rules, exprs.the_lemmas)

pub set_form : (i : ℕ) (e : P4Expr) → stmt_of (P4Stmt.SetMeta i e) ≡ tree.set_meta i (expr_of e)
set_form i e = search (rules, stmts.the_lemmas)

pub apply_form : (n : ℕ) → stmt_of (P4Stmt.Apply n) ≡ tree.apply_table n
apply_form n = search (rules, stmts.the_lemmas)

-- one more statement
pub one_more : (code more : List P4Stmt) (x : P4Stmt) (y : tree.P4Stmt) → more ≡ code ++ x ∷ [] → stmt_of x ≡ y → map stmt_of more ≡ map stmt_of code ++ y ∷ []
one_more code more x y h e = ap (map stmt_of) h ∙ map-append stmt_of code (x ∷ []) ∙ ap (λ z. map stmt_of code ++ z ∷ []) e

pub port_form : expr_of P4Expr.Port ≡ tree.p_port
port_form = search (rules, exprs.the_lemmas)
