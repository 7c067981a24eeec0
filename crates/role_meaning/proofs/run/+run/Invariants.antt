use Rattle.std.proofs.Common.{◌≡◌, ◌+◌, ◌*◌, drop, map}
use Rattle.cocoon_syntax.specs.TreeOf.{block_of, stmt_of}
use Rattle.role_meaning.specs.Levels.{world_at}
use Rattle.role_meaning.specs.Progresses.{env_in, Fits, Grows, packet_in}
use Rattle.role_values.specs.FittingRuns.{fitting_all}
use Rattle.role_meaning.proofs.Sizes.{size, size_all}
use Rattle.role_meaning.proofs.run.+run.Given as goal

abbrev pub decreases-run_stmt : goal.decreases-run_stmt
decreases-run_stmt l = 4 * size (stmt_of l.stmt.now)

abbrev pub decreases-run_block : goal.decreases-run_block
decreases-run_block l = 4 * size_all (block_of (map stmt_of l.stmts.now)) + 1

abbrev pub decreases-run_branch : goal.decreases-run_branch
decreases-run_branch l = 4 * size_all (block_of (map stmt_of l.stmts.now)) + 2

abbrev pub decreases-run_if : goal.decreases-run_if
decreases-run_if l = 4 * (size_all (block_of (map stmt_of l.first.now)) + size_all (block_of (map stmt_of l.second.now))) + 3

abbrev pub decreases-run_fork : goal.decreases-run_fork
decreases-run_fork l = 4 * size_all (block_of (map stmt_of l.body.now)) + 3

abbrev pub invariant-run_block-loop-stmt : goal.invariant-run_block-loop-stmt
invariant-run_block-loop-stmt l = record {
  fits : Fits l.level l.progress;
  grows : Grows l.fn.progress l.progress;
  same : fitting_all (world_at l.level) (block_of (map stmt_of l.stmts)) (env_in l.fn.progress) (packet_in l.level l.fn.progress) l.fn.progress.choices.now
      ≡ fitting_all (world_at l.level) (block_of (map stmt_of (drop l.stmt-index l.stmts))) (env_in l.progress) (packet_in l.level l.progress) l.progress.choices.now;
}
