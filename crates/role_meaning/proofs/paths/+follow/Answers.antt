use Rattle.std.proofs.Common.{◌≡◌, ◌+◌, ◌≤◌, ◌||◌, ◌∷◌, rules, true, List, drop, map, ap, subst, sym, ◌∙◌}
use Rattle.std.proofs.lemmas.List.{drop_all, drop_more}
use Rattle.cocoon_syntax.specs.TreeOf.{block_of, stmt_of}
use Rattle.cocoon_syntax.specs.declared.stmt.Stmt.{Stmt}
use Rattle.role_meaning.proofs.Sizes.{one_of, size, size_all}
use Rattle.refinement.specs.Trails.{finds_in, leaves, VarMark}
use Rattle.role_meaning.specs.Views.{Keeps, marks_at, passes, some_goes, some_tried, var_of}
use Rattle.role_meaning.proofs.Kept.{left, OnOk-then}
use Rattle.role_meaning.proofs.paths.+follow.Goals as goal

pub follow_block-follow_all-requires : goal.follow_block-follow_all-requires
follow_block-follow_all-requires t c =
    let small : size (stmt_of c.stmt-item.result) ≤ size_all (block_of (map stmt_of c.args.stmts.now)) =
    one_of stmt_of c.args.stmts.now c.loop-stmt.stmt-index c.stmt-item.result c.loop-stmt-test.true c.stmt-item.is in
    search rules

pub follow_block-loop-stmt-preserved : goal.follow_block-loop-stmt-preserved
follow_block-loop-stmt-preserved t c = λ t' u h.
    let rest = drop (c.loop-stmt.stmt-index + 1) c.args.stmts.now in
    let here : drop c.loop-stmt.stmt-index c.args.stmts.now ≡ c.stmt-item.result ∷ rest = drop_more c.args.stmts.now c.loop-stmt.stmt-index c.stmt-item.result c.loop-stmt-test.true ∙ ap (λ s. s ∷ rest) (sym c.stmt-item.is) in
    c.in_ok-trails.ensures (finds_in c.args.wanted.now.to.now c.args.wanted.now.sent.now (block_of (map stmt_of rest)) t' u) u
    (subst (λ (ss : List Stmt). passes (finds_in c.args.wanted.now.to.now c.args.wanted.now.sent.now (block_of (map stmt_of ss)) t' u) u c.loop-stmt.trails.items c.loop-stmt.found.items ≡ true) here (c.loop-stmt.invariant t' u h))

pub follow_block-returns : goal.follow_block-returns
follow_block-returns t c = λ t' u h.
    subst (λ (ss : List Stmt). passes (finds_in c.args.wanted.now.to.now c.args.wanted.now.sent.now (block_of (map stmt_of ss)) t' u) u c.loop-stmt.trails.items c.loop-stmt.found.items ≡ true)
    (drop_all c.loop-stmt.stmt-index c.args.stmts.now c.loop-stmt-test.false) (c.loop-stmt.invariant t' u h)

pub follow_branch-returns : goal.follow_branch-returns
follow_branch-returns t c =
    let kept : map var_of c.deref.result.now ≡ (marks_at c.args.trail).vars = ap (map var_of) c.deref.ensures.value ∙ c.in_ok-variables.ensures in
    let went = c.in_ok-trails.trails.items in
    let found = c.follow_block.new.found.items in
    OnOk-then c.leave_all.result _ _ (λ h t' u.
    left (finds_in c.args.wanted.now.to.now c.args.wanted.now.sent.now (block_of (map stmt_of c.args.stmts.now)) (λ m. t' (leaves (marks_at c.args.trail).vars m)) u (marks_at c.args.trail))
    (some_goes (λ m. t' (leaves (marks_at c.args.trail).vars m)) went) (some_goes t' c.args.onward.now.items) (some_goes t' c.leave_all.new.onward.items) (some_tried u c.args.found.now.items) (some_tried u found)
    (c.in_ok-trails.ensures (λ m. t' (leaves (marks_at c.args.trail).vars m)) u)
    (subst (λ (vs : List VarMark). Keeps (some_goes (λ m. t' (leaves vs m)) went || passes t' u c.args.onward.now.items found) (passes t' u c.leave_all.new.onward.items found)) kept (h t' u found)))
    c.leave_all.ensures
