use Rattle.std.proofs.Common.{◌≡◌, ◌+◌, ◌*◌, All, drop, map}
use Rattle.cocoon_num.specs.Tree.{no_stmts, stmt}
use Rattle.cocoon_syntax.specs.TreeOf.{block_of, stmt_of}
use Rattle.bv_terms.specs.Arenas.{KeepsTerms, inputs_in}
use Rattle.obligation_laws.specs.Following.{each, follow, follow_all, then_those, unless_sent}
use Rattle.symbolic_runs.specs.Fitting.{CanFollow}
use Rattle.symbolic_runs.specs.Reading.{IsThere, states_of, world_in}
use Rattle.symbolic_runs.proofs.Sizes.{size, size_all}
use Rattle.symbolic_runs.proofs.following.+follow.Given as goal

abbrev pub decreases-follow_stmt : goal.decreases-follow_stmt
decreases-follow_stmt l = 6 * size (stmt_of l.stmt.now)

abbrev pub decreases-follow_one : goal.decreases-follow_one
decreases-follow_one l = 6 * size (stmt_of l.stmt.now) + 1

abbrev pub decreases-follow_each : goal.decreases-follow_each
decreases-follow_each l = 6 * size (stmt_of l.stmt.now) + 2

abbrev pub decreases-follow_block : goal.decreases-follow_block
decreases-follow_block l = 6 * size_all (block_of (map stmt_of l.stmts.now)) + 3

abbrev pub decreases-follow_both : goal.decreases-follow_both
decreases-follow_both l = 6 * (size_all (block_of (map stmt_of l.first.1.now)) + size_all (block_of (map stmt_of l.second.1.now))) + 4

abbrev pub decreases-follow_if : goal.decreases-follow_if
decreases-follow_if l = 6 * (size_all (block_of (map stmt_of l.first.now)) + size_all (block_of (map stmt_of l.second.now))) + 5

abbrev pub decreases-follow_fork : goal.decreases-follow_fork
decreases-follow_fork l = 6 * size_all (block_of (map stmt_of l.body.now)) + 5

abbrev pub invariant-follow_block-loop-stmt : goal.invariant-follow_block-loop-stmt
invariant-follow_block-loop-stmt l = record {
  kept : KeepsTerms l.fn.terms l.terms;
  can : CanFollow l.world l.terms l.states.items (block_of (map stmt_of (drop l.stmt-index l.stmts)));
  same : follow_all (world_in l.world) (block_of (map stmt_of l.stmts)) (states_of l.fn.terms l.fn.states.items, inputs_in l.fn.terms)
      ≡ follow_all (world_in l.world) (block_of (map stmt_of (drop l.stmt-index l.stmts))) (states_of l.terms l.states.items, inputs_in l.terms);
}

abbrev pub invariant-follow_each-loop-state : goal.invariant-follow_each-loop-state
invariant-follow_each-loop-state l = record {
  kept : KeepsTerms l.fn.terms l.terms;
  there : All (IsThere l.terms) l.after.items;
  can : CanFollow l.world l.terms l.state-iterator.rest.items (stmt (stmt_of l.stmt) no_stmts);
  same : then_those (states_of l.terms l.after.items, inputs_in l.terms) (each (unless_sent (follow (world_in l.world) (stmt_of l.stmt))) (states_of l.terms l.state-iterator.rest.items))
      ≡ each (unless_sent (follow (world_in l.world) (stmt_of l.stmt))) (states_of l.fn.terms l.fn.states.items) (inputs_in l.fn.terms);
}
