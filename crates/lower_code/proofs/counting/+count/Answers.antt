use Rattle.std.proofs.Common.{◌≡◌, ◌+◌, rules, sym, ap, ◌∙◌}
use Rattle.std.proofs.lemmas.Result.{IfOk-weaker}
use Rattle.cocoon_num.specs.Tree.{Expr, pick}
use Rattle.cocoon_syntax.specs.TreeOf.{expr_of}
use Rattle.cocoon_syntax.specs.declared.expr.ExprKind as kinds
use Rattle.lowering.specs.Counting as spec
use Rattle.lower_code.specs.Scopes.{called_count}
use Rattle.lower_code.proofs.counting.+count.Goals as goal

pub expr_count-returns-in_ok-sum-in-Pick : goal.expr_count-returns-in_ok-sum-in-Pick
expr_count-returns-in_ok-sum-in-Pick t c =
    let own = c.args.own in
    let calls = called_count c.args.part c.args.scope.now in
    let x = expr_of c.deref-in-Pick.result.now in
    let a = expr_of c.deref-in-Pick-2.result.now in
    let b = expr_of c.deref-in-Pick-3.result.now in
    let is : expr_of c.args.expr.now ≡ pick c.args.expr.now.at x a b = search (rules, kinds.the_lemmas, c.in-Pick.is) in
    IfOk-weaker c.plus-in-Pick.result _ _
    (λ n h. h
    ∙ ap (λ k. own + k) (c.in_ok-sum-in-Pick.ensures
    ∙ (λ i. c.in_ok-condition-in-Pick.ensures i + (c.in_ok-first-in-Pick.ensures i + c.in_ok-second-in-Pick.ensures i)))
    ∙ ap (λ (e : Expr). spec.expr_count own calls e) (sym is))
    c.plus-in-Pick.ensures
