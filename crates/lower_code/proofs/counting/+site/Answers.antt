use Rattle.std.proofs.Common.{◌≤◌, map, rules}
use Rattle.cocoon_syntax.specs.TreeOf.{block_of, stmt_of}
use Rattle.lower_code.proofs.Sizes.{block_nodes, one_stmt, stmt_nodes}
use Rattle.lower_code.proofs.counting.+site.Goals as goal

pub site_count-stmt_site_count-requires : goal.site_count-stmt_site_count-requires
site_count-stmt_site_count-requires t c =
    let small : stmt_nodes (stmt_of c.stmt-item.result) ≤ block_nodes (block_of (map stmt_of c.args.stmts.now)) =
    one_stmt stmt_of c.args.stmts.now c.loop-stmt.stmt-index c.stmt-item.result c.loop-stmt-test.true c.stmt-item.is in
    search rules
