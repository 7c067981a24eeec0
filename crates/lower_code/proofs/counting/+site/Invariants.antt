use Rattle.std.proofs.Common.{◌≡◌, ◌+◌, ◌*◌, drop, map}
use Rattle.cocoon_syntax.specs.TreeOf.{block_of, stmt_of}
use Rattle.lowering.specs.Counting as spec
use Rattle.lower_code.specs.Scopes.{functions_in}
use Rattle.lower_code.proofs.Sizes.{block_nodes, stmt_nodes}
use Rattle.lower_code.proofs.counting.+site.Given as goal

abbrev pub invariant-site_count-loop-stmt : goal.invariant-site_count-loop-stmt
invariant-site_count-loop-stmt l =
    spec.site_count l.part (functions_in l.scope l.scope.before) (block_of (map stmt_of l.stmts))
    ≡ l.count + spec.site_count l.part (functions_in l.scope l.scope.before) (block_of (map stmt_of (drop l.stmt-index l.stmts)))

abbrev pub decreases-stmt_site_count : goal.decreases-stmt_site_count
decreases-stmt_site_count l = 2 * stmt_nodes (stmt_of l.stmt.now)

abbrev pub decreases-site_count : goal.decreases-site_count
decreases-site_count l = 2 * block_nodes (block_of (map stmt_of l.stmts.now)) + 1
