use Rattle.obligation_gen.specs.Weighed.{leaves_in}
use Rattle.obligation_gen.proofs.BlockWays.{block_more}
use Rattle.obligation_gen.proofs.ways.+ways.Goals as goal

pub block_ways-loop-stmt-preserved : goal.block_ways-loop-stmt-preserved
block_ways-loop-stmt-preserved t c = block_more (leaves_in c.args.roles.now) c.args.stmts.now c.loop-stmt.stmt-index c.stmt-item.result _ _ _ c.loop-stmt-test.true c.stmt-item.is c.loop-stmt.invariant c.stmt_ways.ensures c.followed_by-ways.ensures
