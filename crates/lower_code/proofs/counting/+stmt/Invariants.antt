use Rattle.std.proofs.Common.{◌≡◌, ◌+◌, ◌*◌, drop, map}
use Rattle.cocoon_syntax.specs.TreeOf.{block_of, stmt_of}
use Rattle.lower_code.specs.Counting as spec
use Rattle.lower_code.specs.Scopes.{functions_in}
use Rattle.lower_code.proofs.Sizes.{block_nodes, stmt_nodes}
use Rattle.lower_code.proofs.counting.+stmt.Given as goal

abbrev pub invariant-block_tables-loop-stmt : goal.invariant-block_tables-loop-stmt
invariant-block_tables-loop-stmt l =
    spec.block_tables (functions_in l.scope l.scope.before) (block_of (map stmt_of l.stmts))
    ≡ l.tables + spec.block_tables (functions_in l.scope l.scope.before) (block_of (map stmt_of (drop l.stmt-index l.stmts)))

abbrev pub decreases-stmt_tables : goal.decreases-stmt_tables
decreases-stmt_tables l = 2 * stmt_nodes (stmt_of l.stmt.now)

abbrev pub decreases-block_tables : goal.decreases-block_tables
decreases-block_tables l = 2 * block_nodes (block_of (map stmt_of l.stmts.now)) + 1
