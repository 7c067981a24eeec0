use Rattle.std.proofs.Common.{ℕ, ◌+◌, ◌*◌, ◌||◌, Bool, List, drop, map, vec_len}
use Rattle.cocoon_syntax.specs.TreeOf.{block_of, stmt_of}
use Rattle.role_meaning.proofs.Sizes.{size, size_all}
use Rattle.refinement.specs.Trails.{finds, finds_in, Marks}
use Rattle.role_meaning.specs.Views.{Keeps, marks_at, passes, some_goes, some_tried}
use Rattle.role_meaning.proofs.paths.+follow.Given as goal

abbrev pub decreases-follow_stmt : goal.decreases-follow_stmt
decreases-follow_stmt l = 5 * size (stmt_of l.stmt.now)

abbrev pub decreases-follow_all : goal.decreases-follow_all
decreases-follow_all l = 5 * size (stmt_of l.stmt.now) + 1

abbrev pub decreases-follow_block : goal.decreases-follow_block
decreases-follow_block l = 5 * size_all (block_of (map stmt_of l.stmts.now)) + 2

abbrev pub decreases-follow_branch : goal.decreases-follow_branch
decreases-follow_branch l = 5 * size_all (block_of (map stmt_of l.stmts.now)) + 3

abbrev pub decreases-follow_if : goal.decreases-follow_if
decreases-follow_if l = 5 * (size_all (block_of (map stmt_of l.first.now)) + size_all (block_of (map stmt_of l.second.now))) + 4

abbrev pub decreases-follow_fork : goal.decreases-follow_fork
decreases-follow_fork l = 5 * size_all (block_of (map stmt_of l.body.now)) + 3

abbrev pub invariant-follow_block-loop-stmt : goal.invariant-follow_block-loop-stmt
invariant-follow_block-loop-stmt l =
    (t : Marks → Bool) (u : List ℕ → Bool)
    → Keeps (finds_in l.wanted.to.now l.wanted.sent.now (block_of (map stmt_of l.stmts)) t u (marks_at l.fn.trail) || some_tried u l.fn.found.items)
    (passes (finds_in l.wanted.to.now l.wanted.sent.now (block_of (map stmt_of (drop l.stmt-index l.stmts))) t u) u l.trails.items l.found.items)

abbrev pub invariant-follow_all-loop-trail : goal.invariant-follow_all-loop-trail
invariant-follow_all-loop-trail l =
    (t : Marks → Bool) (u : List ℕ → Bool)
    → Keeps (passes (finds l.wanted.to.now l.wanted.sent.now (stmt_of l.stmt) t u) u l.fn.trails.items l.fn.found.items)
    (some_goes (finds l.wanted.to.now l.wanted.sent.now (stmt_of l.stmt) t u) l.trails.items || passes t u l.onward.items l.found.items)

abbrev pub decreases-follow_all-loop-trail : goal.decreases-follow_all-loop-trail
decreases-follow_all-loop-trail l = vec_len l.trails
