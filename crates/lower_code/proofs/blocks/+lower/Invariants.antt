use Rattle.std.proofs.Common.{◌≡◌, ◌+◌, ◌*◌, drop, map}
use Rattle.cocoon_syntax.specs.TreeOf as tree
use Rattle.lowering.specs.LowerBlock.{lower_block}
use Rattle.lower_code.specs.Blocks.{block_so_far, with_block}
use Rattle.lower_code.specs.Growth.{counts_of}
use Rattle.lower_code.specs.Scopes.{callees_in, design_in}
use Rattle.lower_code.specs.Variables.{variables_of}
use Rattle.lower_code.proofs.Sizes.{block_nodes, stmt_nodes}
use Rattle.lower_code.proofs.blocks.+lower.Given as goal

abbrev pub invariant-lower_block-loop-stmt : goal.invariant-lower_block-loop-stmt
invariant-lower_block-loop-stmt l =
    with_block (block_so_far (design_in l.scope) l.fn.to l.fn.code.items l.fn.frame)
    (lower_block (callees_in l.scope) (variables_of l.fn.frame.variables.items) (counts_of l.fn.to.counts) (tree.block_of (map tree.stmt_of l.stmts)))
    ≡ with_block (block_so_far (design_in l.scope) l.to l.code.items l.frame)
    (lower_block (callees_in l.scope) (variables_of l.frame.variables.items) (counts_of l.to.counts) (tree.block_of (map tree.stmt_of (drop l.stmt-index l.stmts))))

abbrev pub decreases-lower_stmt : goal.decreases-lower_stmt
decreases-lower_stmt l = 4 * stmt_nodes (tree.stmt_of l.stmt.now)

abbrev pub decreases-lower_block : goal.decreases-lower_block
decreases-lower_block l = 4 * block_nodes (tree.block_of (map tree.stmt_of l.stmts.now)) + 1

abbrev pub decreases-lower_branch : goal.decreases-lower_branch
decreases-lower_branch l = 4 * block_nodes (tree.block_of (map tree.stmt_of l.stmts.now)) + 2

abbrev pub decreases-lower_if : goal.decreases-lower_if
decreases-lower_if l = 4 * (block_nodes (tree.block_of (map tree.stmt_of l.first.now)) + block_nodes (tree.block_of (map tree.stmt_of l.second.now))) + 3
