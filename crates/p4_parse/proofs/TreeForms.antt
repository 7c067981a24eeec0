-- What the trees in memory stand for, by their forms.
use Rattle.std.specs.Prelude.{◌≡◌, Bool, List, ℕ, Vec}
use Rattle.std.specs.Global.{Global}
use Rattle.std.proofs.Common.{rules}
use Rattle.cocoon_num.specs.declared.bits.Bits.{Bits}
use Rattle.p4_texts.specs.Written as written
use Rattle.p4_texts.specs.TreeOf.{body_of, expr_of, stmt_of}
use Rattle.p4_texts.specs.declared.written.WrittenExpr.{WrittenExpr}
use Rattle.p4_texts.specs.declared.written.WrittenExpr as exprs
use Rattle.p4_texts.specs.declared.written.WrittenExpr.TheVariants as e
use Rattle.p4_texts.specs.declared.written.WrittenStmt.{WrittenStmt}
use Rattle.p4_texts.specs.declared.written.WrittenStmt as statements
use Rattle.p4_texts.specs.declared.written.WrittenStmt.TheVariants as s

pub lit_is : (b : Bits) → expr_of (e.Lit b) ≡ written.w_lit b.width b.value
lit_is b = search (rules, exprs.the_lemmas)

pub truth_is : (b : Bool) → expr_of (e.Truth b) ≡ written.w_truth b
truth_is b = search (rules, exprs.the_lemmas)

pub meta_is : (x : List ℕ) → expr_of (e.Meta x) ≡ written.w_meta x
meta_is x = search (rules, exprs.the_lemmas)

pub field_is : (x y : List ℕ) → expr_of (e.Field x y) ≡ written.w_field x y
field_is x y = search (rules, exprs.the_lemmas)

pub port_is : expr_of e.Port ≡ written.w_port
port_is = search (rules, exprs.the_lemmas)

pub rid_is : expr_of e.Rid ≡ written.w_rid
rid_is = search (rules, exprs.the_lemmas)

pub set_meta_is : (x : List ℕ) (v : WrittenExpr) → stmt_of (s.SetMeta x v) ≡ written.w_set_meta x (expr_of v)
set_meta_is x v = search (rules, statements.the_lemmas)

pub set_field_is : (x y : List ℕ) (v : WrittenExpr) → stmt_of (s.SetField x y v) ≡ written.w_set_field x y (expr_of v)
set_field_is x y v = search (rules, statements.the_lemmas)

pub apply_is : (x : List ℕ) → stmt_of (s.Apply x) ≡ written.w_apply x
apply_is x = search (rules, statements.the_lemmas)

pub if_is : (v : WrittenExpr) (a : Vec WrittenStmt Global) → stmt_of (s.If v a) ≡ written.w_if (expr_of v) (body_of a.items)
if_is v a = search (rules, statements.the_lemmas)

pub if_else_is : (v : WrittenExpr) (a b : Vec WrittenStmt Global) → stmt_of (s.IfElse v a b) ≡ written.w_if_else (expr_of v) (body_of a.items) (body_of b.items)
if_else_is v a b = search (rules, statements.the_lemmas)

pub verdict_is : (b : Bits) → stmt_of (s.Verdict b) ≡ written.w_verdict b.width b.value
verdict_is b = search (rules, statements.the_lemmas)

pub egress_port_is : (v : WrittenExpr) → stmt_of (s.EgressPort v) ≡ written.w_egress_port (expr_of v)
egress_port_is v = search (rules, statements.the_lemmas)

pub group_is : (v : WrittenExpr) → stmt_of (s.Group v) ≡ written.w_group (expr_of v)
group_is v = search (rules, statements.the_lemmas)

pub return_is : stmt_of s.Return ≡ written.w_return
return_is = search (rules, statements.the_lemmas)
