use Rattle.cocoon_resolve.proofs.Steps.{stmt_step}
use Rattle.cocoon_resolve.proofs.body_nodes.+nodes.Goals as goal

pub count_nodes-loop-stmt-preserved : goal.count_nodes-loop-stmt-preserved
count_nodes-loop-stmt-preserved t c = λ fs k. stmt_step fs c.args.stmts.now c.loop-stmt.stmt-index c.stmt-item.result _ _ _ c.loop-stmt-test.true c.stmt-item.is (c.loop-stmt.invariant fs k) (c.stmt_count.ensures fs k) c.saturating_add-sum.ensures
