use Rattle.cocoon_resolve.proofs.Steps.{expr_step}
use Rattle.cocoon_resolve.proofs.body_nodes.exprs_count.Goals as goal

pub loop-expr-preserved : goal.loop-expr-preserved
loop-expr-preserved c = λ fs k. expr_step fs c.args.exprs.now c.loop-expr.expr-index c.expr-item.result _ _ _ c.loop-expr-test.true c.expr-item.is (c.loop-expr.invariant fs k) (c.expr_count.ensures fs k) c.saturating_add-sum.ensures
