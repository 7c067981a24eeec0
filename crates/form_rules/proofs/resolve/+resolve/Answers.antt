use Rattle.std.proofs.Common.{◌≡◌, ◌∙◌, ◌∷◌, ◌+◌, [], List, map, drop, ap, subst, sym, refl}
use Rattle.std.proofs.lemmas.List.{drop_all, drop_more}
use Rattle.std.proofs.lemmas.Result.{on_ok_weaker}
use Rattle.cocoon_num.specs.Tree as tree
use Rattle.cocoon_syntax.specs.declared.expr.Expr.{Expr}
use Rattle.cocoon_syntax.specs.declared.stmt.Stmt.{Stmt}
use Rattle.cocoon_syntax.specs.TreeOf.{block_of, expr_of, exprs_of, name_of, stmt_of}
use Rattle.form_rules.specs.Following.{Names, after, names_of}
use Rattle.form_rules.specs.Steps.{Adds, AddsSend, StepsOf}
use Rattle.form_rules.proofs.Running.{Made, one_made, all_made, one_move, if_made, fork_made, fork_names, send_made}
use Rattle.form_rules.proofs.Seen.{seen_let, seen_set, seen_if, seen_filter, seen_havoc_var, seen_havoc_field, seen_assume, seen_fork, seen_send}
use Rattle.form_rules.proofs.resolve.+resolve.Goals as goal

pub resolve_block-loop-stmt-preserved : goal.resolve_block-loop-stmt-preserved
resolve_block-loop-stmt-preserved t c =
    let all : List Stmt = c.args.stmts.now in
    let here : drop c.loop-stmt.stmt-index all ≡ c.stmt-item.result ∷ drop (c.loop-stmt.stmt-index + 1) all =
    drop_more all c.loop-stmt.stmt-index c.stmt-item.result c.loop-stmt-test.true ∙ ap (λ (s : Stmt). s ∷ drop (c.loop-stmt.stmt-index + 1) all) (sym c.stmt-item.is) in
    one_made (names_of c.args.scope.now) (names_of c.loop-stmt.scope) (names_of c.resolve_stmt.new.scope) (stmt_of c.stmt-item.result)
    (block_of (map stmt_of (drop (c.loop-stmt.stmt-index + 1) all))) (block_of (map stmt_of all)) c.loop-stmt.steps.items c.resolve_stmt.new.steps.items
    (subst (λ (ss : List Stmt). Made (names_of c.args.scope.now) (names_of c.loop-stmt.scope) (block_of (map stmt_of ss)) (block_of (map stmt_of all)) c.loop-stmt.steps.items) here c.loop-stmt.invariant)
    c.in_ok-resolve_stmt.ensures.names c.in_ok-resolve_stmt.ensures.adds

pub resolve_block-returns-clause-steps : goal.resolve_block-returns-clause-steps
resolve_block-returns-clause-steps t c =
    all_made (names_of c.args.scope.now) (names_of c.loop-stmt.scope) (block_of (map stmt_of (drop c.loop-stmt.stmt-index c.args.stmts.now))) (block_of (map stmt_of c.args.stmts.now)) c.loop-stmt.steps.items
    (ap (λ (ss : List Stmt). block_of (map stmt_of ss)) (drop_all c.loop-stmt.stmt-index c.args.stmts.now c.loop-stmt-test.false)) c.loop-stmt.invariant

pub resolve_stmt-returns-in-Let-clause-adds : goal.resolve_stmt-returns-in-Let-clause-adds
resolve_stmt-returns-in-Let-clause-adds t c =
    on_ok_weaker c.push_let.result (one_move (names_of c.args.scope.now) _ _ _ _ _ (seen_let c.args.stmt.now c.in-Let.name _ c.in-Let.value c.in-Let.is) (λ k u q. refl)) c.push_let.ensures.adds

pub resolve_stmt-returns-in-SetField-clause-adds : goal.resolve_stmt-returns-in-SetField-clause-adds
resolve_stmt-returns-in-SetField-clause-adds t c =
    on_ok_weaker c.push_set.result (one_move (names_of c.args.scope.now) _ _ _ _ _ (seen_set c.args.stmt.now c.in-SetField.header c.in-SetField.field c.in-SetField.value c.in-SetField.is) (λ k u q. refl)) c.push_set.ensures

pub resolve_stmt-returns-in-Filter-clause-adds : goal.resolve_stmt-returns-in-Filter-clause-adds
resolve_stmt-returns-in-Filter-clause-adds t c =
    on_ok_weaker c.push_condition-in-Filter.result (one_move (names_of c.args.scope.now) _ _ _ _ _ (seen_filter c.args.stmt.now c.in-Filter.condition c.in-Filter.is) (λ k u q. refl)) c.push_condition-in-Filter.ensures

pub resolve_stmt-returns-in-Assume-clause-adds : goal.resolve_stmt-returns-in-Assume-clause-adds
resolve_stmt-returns-in-Assume-clause-adds t c =
    on_ok_weaker c.push_condition-in-Assume.result (one_move (names_of c.args.scope.now) _ _ _ _ _ (seen_assume c.args.stmt.now c.in-Assume.condition c.in-Assume.is) (λ k u q. refl)) c.push_condition-in-Assume.ensures

pub resolve_stmt-returns-in-HavocVar-clause-adds : goal.resolve_stmt-returns-in-HavocVar-clause-adds
resolve_stmt-returns-in-HavocVar-clause-adds t c =
    on_ok_weaker c.push_choice.result (one_move (names_of c.args.scope.now) _ _ _ _ _ (seen_havoc_var c.args.stmt.now c.in-HavocVar.name _ c.in-HavocVar.is) (λ k u q. refl)) c.push_choice.ensures.adds

pub resolve_stmt-returns-in-HavocField-clause-adds : goal.resolve_stmt-returns-in-HavocField-clause-adds
resolve_stmt-returns-in-HavocField-clause-adds t c =
    on_ok_weaker c.push_field_choice.result (one_move (names_of c.args.scope.now) _ _ _ _ _ (seen_havoc_field c.args.stmt.now c.in-HavocField.header c.in-HavocField.field c.in-HavocField.is) (λ k u q. refl)) c.push_field_choice.ensures

pub resolve_stmt-returns-in_ok-second-in-If-clause-adds : goal.resolve_stmt-returns-in_ok-second-in-If-clause-adds
resolve_stmt-returns-in_ok-second-in-If-clause-adds t c =
    let n : Names = names_of c.args.scope.now in
    let m : Names = names_of c.resolve_block.new.scope in
    let a : List Stmt = c.in-If.first.items in
    let b : List Stmt = c.in-If.second.items in
    let is : stmt_of c.args.stmt.now ≡ tree.if_ c.args.stmt.now.at (expr_of c.in-If.condition) (block_of (map stmt_of a)) (block_of (map stmt_of b)) = seen_if c.args.stmt.now c.in-If.condition c.in-If.first c.in-If.second c.in-If.is in
    on_ok_weaker c.push_branch.result (λ branches.
    subst (λ (s : tree.Stmt). Adds n s c.args.steps.now.items c.push_branch.new.steps.items) (sym is)
    (if_made n m (names_of c.resolve_block-in-If.new.scope) c.args.stmt.now.at (expr_of c.in-If.condition) (block_of (map stmt_of a)) (block_of (map stmt_of b))
    c.args.steps.now.items c.push_condition.new.steps.items c.push_branch.new.steps.items c.in_ok-first-in-If.first.items c.in_ok-second-in-If.second.items
    c.in_ok-push_condition-in-If.ensures
    (subst (λ (ss : List Stmt). StepsOf n (block_of (map stmt_of ss)) c.in_ok-first-in-If.first.items) c.deref.ensures.value c.in_ok-first-in-If.ensures.steps)
    c.in_ok-first-in-If.ensures.names
    (subst (λ (ss : List Stmt). StepsOf m (block_of (map stmt_of ss)) c.in_ok-second-in-If.second.items) c.deref-in-If.ensures.value c.in_ok-second-in-If.ensures.steps)
    c.in_ok-second-in-If.ensures.names branches)) c.push_branch.ensures

pub resolve_stmt-returns-in_ok-body-in-Fork-clause-names : goal.resolve_stmt-returns-in_ok-body-in-Fork-clause-names
resolve_stmt-returns-in_ok-body-in-Fork-clause-names t c =
    let n : Names = names_of c.args.scope.now in
    on_ok_weaker c.push_fork.result (λ _.
    fork_names n (names_of c.resolve_block-in-Fork.new.scope) (names_of c.unbind.new.scope) (name_of c.in-Fork.name) c.count-count.result
    (c.in_ok-body-in-Fork.ensures.names ∙ c.in_ok-push_choice-in-Fork.ensures.names) c.count-count.ensures c.unbind.ensures
    ∙ sym (ap (λ s. after s n) (seen_fork c.args.stmt.now c.in-Fork.name c.in-Fork.field-1 c.in-Fork.condition c.in-Fork.body c.in-Fork.is))) c.push_fork.ensures

pub resolve_stmt-returns-in_ok-body-in-Fork-clause-adds : goal.resolve_stmt-returns-in_ok-body-in-Fork-clause-adds
resolve_stmt-returns-in_ok-body-in-Fork-clause-adds t c =
    let n : Names = names_of c.args.scope.now in
    let m : Names = names_of c.push_choice-in-Fork.new.scope in
    on_ok_weaker c.push_fork.result (λ forks.
    subst (λ (s : tree.Stmt). Adds n s c.args.steps.now.items c.push_fork.new.steps.items) (sym (seen_fork c.args.stmt.now c.in-Fork.name c.in-Fork.field-1 c.in-Fork.condition c.in-Fork.body c.in-Fork.is))
    (fork_made n m c.args.stmt.now.at (name_of c.in-Fork.name) c.in-Fork.field-1 (expr_of c.in-Fork.condition) (block_of (map stmt_of c.in-Fork.body.items))
    c.args.steps.now.items c.push_choice-in-Fork.new.steps.items c.push_condition-in-Fork.new.steps.items c.push_fork.new.steps.items c.in_ok-body-in-Fork.body.items
    c.in_ok-push_choice-in-Fork.ensures.adds c.in_ok-push_choice-in-Fork.ensures.names c.in_ok-push_condition-in-Fork.ensures
    (subst (λ (ss : List Stmt). StepsOf m (block_of (map stmt_of ss)) c.in_ok-body-in-Fork.body.items) c.deref-in-Fork.ensures.value c.in_ok-body-in-Fork.ensures.steps)
    forks)) c.push_fork.ensures

pub resolve_stmt-returns-in-Send-clause-adds : goal.resolve_stmt-returns-in-Send-clause-adds
resolve_stmt-returns-in-Send-clause-adds t c =
    let n : Names = names_of c.args.scope.now in
    on_ok_weaker c.push_send.result (λ sends.
    send_made n (stmt_of c.args.stmt.now) c.args.stmt.now.at (name_of c.in-Send.field-0) (exprs_of (map expr_of c.in-Send.args.items)) c.args.steps.now.items c.push_send.new.steps.items
    (seen_send c.args.stmt.now c.in-Send.field-0 c.in-Send.args c.in-Send.is)
    (subst (λ (es : List Expr). AddsSend n (exprs_of (map expr_of es)) c.args.steps.now.items c.push_send.new.steps.items) c.deref-in-Send.ensures.value sends)) c.push_send.ensures
