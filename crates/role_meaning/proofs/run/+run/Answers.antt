use Rattle.std.proofs.Common.{◌≡◌, ◌+◌, ◌≤◌, ℕ, List, map, drop, option_map, Bor, IfOk, rules, sym, ap, subst, ◌∙◌}
use Rattle.cocoon_num.specs.Packets.{Packet}
use Rattle.cocoon_num.specs.Tree.{Block, fork, send}
use Rattle.cocoon_syntax.specs.declared.stmt.Stmt.{Stmt as Node}
use Rattle.cocoon_syntax.specs.declared.stmt.StmtKind as kinds
use Rattle.cocoon_syntax.specs.TreeOf.{block_of, expr_of, exprs_of, name_of, stmt_of}
use Rattle.cocoon_types.specs.Taken.{back, Ended, go_on}
use Rattle.cocoon_types.specs.Val.{Env}
use Rattle.role_meaning.specs.Levels.{truth_in, world_at}
use Rattle.role_meaning.specs.Progresses.{ended_of, env_in, packet_in, Runs}
use Rattle.role_values.specs.FittingRuns.{fitting_all}
use Rattle.role_values.specs.Scenes.{value_in}
use Rattle.role_meaning.proofs.Blocks.{block_step, goes_on, not_entered, picks, still, stops}
use Rattle.role_meaning.proofs.Sizes.{one_of, picked_size, size, size_all}
use Rattle.role_meaning.proofs.run.+run.Goals as goal

pub run_block-run_stmt-requires : goal.run_block-run_stmt-requires
run_block-run_stmt-requires t c =
    let small : size (stmt_of c.stmt-item.result) ≤ size_all (block_of (map stmt_of c.args.stmts.now)) =
    one_of stmt_of c.args.stmts.now c.loop-stmt.stmt-index c.stmt-item.result c.loop-stmt-test.true c.stmt-item.is in
    search rules

pub run_block-returns-then-not-falls-clause-runs : goal.run_block-returns-then-not-falls-clause-runs
run_block-returns-then-not-falls-clause-runs t c =
    let l = c.args.level.now in
    let p = c.loop-stmt.progress in
    let i = c.loop-stmt.stmt-index in
    let K : Env → Packet → List ℕ → Ended = λ env packet more. fitting_all (world_at l) (block_of (map stmt_of (drop (i + 1) c.args.stmts.now))) env packet more in
    sym (c.loop-stmt.invariant.same
    ∙ block_step stmt_of (world_at l) c.args.stmts.now i c.stmt-item.result (env_in p) (packet_in l p) p.choices.now c.loop-stmt-test.true c.stmt-item.is
    ∙ ap (λ r. go_on r K) (sym c.in_ok-end.ensures.runs)
    ∙ stops l c.in_ok-end.end c.run_stmt.new.progress K (search rules))

pub run_block-loop-stmt-preserved : goal.run_block-loop-stmt-preserved
run_block-loop-stmt-preserved t c =
    let l = c.args.level.now in
    let p = c.loop-stmt.progress in
    let i = c.loop-stmt.stmt-index in
    let K : Env → Packet → List ℕ → Ended = λ env packet more. fitting_all (world_at l) (block_of (map stmt_of (drop (i + 1) c.args.stmts.now))) env packet more in
    record {
      fits = c.in_ok-end.ensures.fits;
      grows = still c.args.progress.now.state.variables.items p.state.variables.items c.run_stmt.new.progress.state.variables.items c.loop-stmt.invariant.grows c.in_ok-end.ensures.grows;
      same = c.loop-stmt.invariant.same
          ∙ block_step stmt_of (world_at l) c.args.stmts.now i c.stmt-item.result (env_in p) (packet_in l p) p.choices.now c.loop-stmt-test.true c.stmt-item.is
          ∙ ap (λ r. go_on r K) (sym c.in_ok-end.ensures.runs)
          ∙ goes_on l c.in_ok-end.end c.run_stmt.new.progress K (search rules);
    }

pub run_if-run_branch-requires : goal.run_if-run_branch-requires
run_if-run_branch-requires t c =
    let v = truth_in (value_in c.args.level.now.scene c.args.progress.now.state (expr_of c.args.condition.now)) in
    let small : size_all (block_of (map stmt_of c.in-Some.block.now)) ≤ size_all (block_of (map stmt_of c.args.first.now)) + size_all (block_of (map stmt_of c.args.second.now)) =
    picked_size v (block_of (map stmt_of c.args.first.now)) (block_of (map stmt_of c.args.second.now)) (block_of (map stmt_of c.in-Some.block.now))
    (sym c.in_ok-block.ensures ∙ ap (option_map (λ (b : Bor (List Node)). block_of (map stmt_of b.now))) c.in-Some.is) in
    search rules

pub run_if-returns-in-Some-clause-runs : goal.run_if-returns-in-Some-clause-runs
run_if-returns-in-Some-clause-runs t c =
    let l = c.args.level.now in
    let p = c.args.progress.now in
    let v = value_in l.scene p.state (expr_of c.args.condition.now) in
    let runs = λ (b : Block). fitting_all (world_at l) b (env_in p) (packet_in l p) p.choices.now in
    subst (λ z. IfOk c.run_branch.result (λ end. ended_of l end c.run_branch.new.progress ≡ back (env_in p) z))
    (sym (picks v (block_of (map stmt_of c.args.first.now)) (block_of (map stmt_of c.args.second.now)) (block_of (map stmt_of c.in-Some.block.now)) runs
    (sym c.in_ok-block.ensures ∙ ap (option_map (λ (b : Bor (List Node)). block_of (map stmt_of b.now))) c.in-Some.is)))
    c.run_branch.ensures.runs

pub run_fork-returns-else-branch-clause-runs : goal.run_fork-returns-else-branch-clause-runs
run_fork-returns-else-branch-clause-runs t c =
    not_entered c.args.level.now c.args.progress.now c.enter_fork.new.progress (name_of c.args.name.now) c.args.width (expr_of c.args.condition.now) c.in_ok-enter_fork.field-0
    (block_of (map stmt_of c.args.body.now)) c.in_ok-enter_fork.ensures.enters c.if-branch.false

pub run_stmt-returns-in-Fork-clause-runs : goal.run_stmt-returns-in-Fork-clause-runs
run_stmt-returns-in-Fork-clause-runs t c =
    let l = c.args.level.now in
    let is : stmt_of c.args.stmt.now ≡ fork c.args.stmt.now.at (name_of c.in-Fork.name) c.in-Fork.width (expr_of c.in-Fork.condition) (block_of (map stmt_of c.deref-in-Fork.result.now)) =
    search (rules, kinds.the_lemmas, c.in-Fork.is) in
    subst (λ s. IfOk c.run_fork.result (λ end. Runs l c.args.progress.now s end c.run_fork.new.progress)) (sym is) c.run_fork.ensures.runs

pub run_stmt-returns-in-Send-clause-runs : goal.run_stmt-returns-in-Send-clause-runs
run_stmt-returns-in-Send-clause-runs t c =
    let l = c.args.level.now in
    let is : stmt_of c.args.stmt.now ≡ send c.args.stmt.now.at (name_of c.in-Send.role) (exprs_of (map expr_of c.deref-in-Send.result.now)) =
    search (rules, kinds.the_lemmas, c.in-Send.is) in
    subst (λ s. IfOk c.send.result (λ end. Runs l c.args.progress.now s end c.args.progress.now)) (sym is) c.send.ensures.runs

pub run_fork-returns-in_ok-run_block-clause-at : goal.run_fork-returns-in_ok-run_block-clause-at
run_fork-returns-in_ok-run_block-clause-at t c = c.only_sent.ensures.at c.args.level.now c.in_ok-run_block.ensures.at
