use Rattle.cocoon_resolve.proofs.BlockWays.{block_more}
use Rattle.cocoon_resolve.proofs.ways.+ways.Goals as goal

pub block_ways-loop-stmt-preserved : goal.block_ways-loop-stmt-preserved
block_ways-loop-stmt-preserved t c = block_more c.args.stmts.now c.loop-stmt.stmt-index c.stmt-item.result _ _ _ c.loop-stmt-test.true c.stmt-item.is c.loop-stmt.invariant c.stmt_ways.ensures c.followed_by-ways.ensures
