use Rattle.std.proofs.Common.{◌≡◌, ◌∙◌, ap, rules, sym}
use Rattle.p4_ir.specs.P4Tree.{p_binary, p_pick}
use Rattle.p4_ir.specs.Program.{binary_of, expr_of, unary_of}
use Rattle.p4_ir.specs.declared.program.P4Expr as exprs
use Rattle.net_wiring.specs.SameTrees as spec
use Rattle.net_wiring.proofs.OtherTrees.{no-binary, no-pick, no-slice, no-unary}
use Rattle.net_wiring.proofs.exprs.+same.Goals as goal

pub same_expr-returns-in_default : goal.same_expr-returns-in_default
same_expr-returns-in_default t c =
    let op = binary_of c.in-Binary.op in
    let a = expr_of c.in-Binary.left.value in
    let b = expr_of c.in-Binary.right.value in
    let is : expr_of c.args.expr.now ≡ p_binary op a b = search (rules, exprs.the_lemmas, c.in-Binary.is) in
    no-binary op a b c.args.other.now c.in_default.not-Binary ∙ ap (λ x. spec.same_expr x (expr_of c.args.other.now)) (sym is)

pub same_expr-returns-in_default-other : goal.same_expr-returns-in_default-other
same_expr-returns-in_default-other t c =
    let d = expr_of c.in-Pick.condition.value in
    let a = expr_of c.in-Pick.first.value in
    let b = expr_of c.in-Pick.second.value in
    let is : expr_of c.args.expr.now ≡ p_pick d a b = search (rules, exprs.the_lemmas, c.in-Pick.is) in
    no-pick d a b c.args.other.now c.in_default-other.not-Pick ∙ ap (λ x. spec.same_expr x (expr_of c.args.other.now)) (sym is)

pub same_slice-returns-in_default : goal.same_slice-returns-in_default
same_slice-returns-in_default t c = no-slice (expr_of c.args.a.now) c.args.high c.args.low c.args.other.now c.in_default.not-Slice

pub same_unary-returns-in_default : goal.same_unary-returns-in_default
same_unary-returns-in_default t c = no-unary (unary_of c.args.op) (expr_of c.args.a.now) c.args.other.now c.in_default.not-Unary
