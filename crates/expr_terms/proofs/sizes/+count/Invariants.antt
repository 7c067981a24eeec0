use Rattle.std.proofs.Common.{◌≡◌, ℕ, ◌+◌, ◌*◌, drop, map}
use Rattle.cocoon_syntax.specs.TreeOf.{expr_of, exprs_of}
use Rattle.role_values.proofs.Sizes as size
use Rattle.expr_terms.specs.Knowing.{calls_known}
use Rattle.expr_terms.specs.Sizes.{IsCount, all_nodes}
use Rattle.expr_terms.proofs.sizes.+count.Given as goal

abbrev pub decreases-count : goal.decreases-count
decreases-count l = 2 * size.nodes (expr_of l.expr.now)

abbrev pub decreases-count_all : goal.decreases-count_all
decreases-count_all l = 2 * size.all_nodes (exprs_of (map expr_of l.exprs.now)) + 1

abbrev pub invariant-count_all-loop-expr : goal.invariant-count_all-loop-expr
invariant-count_all-loop-expr l =
    (done : ℕ) × IsCount done l.sum
    × (all_nodes (calls_known l.counting) (exprs_of (map expr_of l.exprs)) ≡ done + all_nodes (calls_known l.counting) (exprs_of (map expr_of (drop l.expr-index l.exprs))))
