use Rattle.std.proofs.Common.{◌≡◌, ◌+◌, ◌≤◌, List, map, IfOk, rules, sym, ap, subst, ◌∙◌}
use Rattle.std.proofs.lemmas.Result.{IfOk-weaker}
use Rattle.cocoon_num.specs.Tree.{Stmt, let_, set_field, if_, filter}
use Rattle.cocoon_syntax.specs.TreeOf.{block_of, expr_of, name_of, stmt_of}
use Rattle.cocoon_syntax.specs.declared.stmt.Stmt.{Stmt as Statement}
use Rattle.cocoon_syntax.specs.declared.stmt.StmtKind as kinds
use Rattle.lowering.specs.Counting as spec
use Rattle.lower_code.specs.Scopes.{functions_in}
use Rattle.lower_code.proofs.Sizes.{block_nodes, one_stmt, stmt_nodes}
use Rattle.lower_code.proofs.counting.+stmt.Goals as goal

pub stmt_count-returns-in-Let : goal.stmt_count-returns-in-Let
stmt_count-returns-in-Let t c =
    let fs = functions_in c.args.scope.now c.args.scope.now.before in
    let is : stmt_of c.args.stmt.now ≡ let_ c.args.stmt.now.at (name_of c.in-Let.field-0) c.in-Let.field-1 (expr_of c.in-Let.value) = search (rules, kinds.the_lemmas, c.in-Let.is) in
    subst (λ (s : Stmt). IfOk c.expr_count.result (λ n. n ≡ spec.stmt_count c.args.part fs s)) (sym is) c.expr_count.ensures

pub stmt_count-returns-in-SetField : goal.stmt_count-returns-in-SetField
stmt_count-returns-in-SetField t c =
    let fs = functions_in c.args.scope.now c.args.scope.now.before in
    let is : stmt_of c.args.stmt.now ≡ set_field c.args.stmt.now.at (name_of c.in-SetField.field-0) (name_of c.in-SetField.field-1) (expr_of c.in-SetField.value) = search (rules, kinds.the_lemmas, c.in-SetField.is) in
    subst (λ (s : Stmt). IfOk c.expr_count-in-SetField.result (λ n. n ≡ spec.stmt_count c.args.part fs s)) (sym is) c.expr_count-in-SetField.ensures

pub stmt_count-returns-in-Filter : goal.stmt_count-returns-in-Filter
stmt_count-returns-in-Filter t c =
    let fs = functions_in c.args.scope.now c.args.scope.now.before in
    let is : stmt_of c.args.stmt.now ≡ filter c.args.stmt.now.at (expr_of c.in-Filter.condition) = search (rules, kinds.the_lemmas, c.in-Filter.is) in
    subst (λ (s : Stmt). IfOk c.expr_count-in-Filter.result (λ n. n ≡ spec.stmt_count c.args.part fs s)) (sym is) c.expr_count-in-Filter.ensures

pub stmt_count-returns-in_ok-plus-in-If : goal.stmt_count-returns-in_ok-plus-in-If
stmt_count-returns-in_ok-plus-in-If t c =
    let fs = functions_in c.args.scope.now c.args.scope.now.before in
    let of_block = λ (xs : List Statement). spec.block_count c.args.part fs (block_of (map stmt_of xs)) in
    let is : stmt_of c.args.stmt.now ≡ if_ c.args.stmt.now.at (expr_of c.in-If.condition) (block_of (map stmt_of c.in-If.first.items)) (block_of (map stmt_of c.in-If.second.items)) = search (rules, kinds.the_lemmas, c.in-If.is) in
    let first = c.in_ok-branch-in-If.ensures ∙ ap of_block c.deref.ensures.value in
    let second = c.in_ok-block_count-in-If.ensures ∙ ap of_block c.deref-in-If.ensures.value in
    IfOk-weaker c.plus-in-If.result _ _
    (λ n h. h ∙ (λ i. c.in_ok-count-in-If.ensures i + ((c.in_ok-plus-in-If.ensures ∙ (λ j. first j + second j)) i)) ∙ ap (λ (s : Stmt). spec.stmt_count c.args.part fs s) (sym is))
    c.plus-in-If.ensures

pub block_count-stmt_count-requires : goal.block_count-stmt_count-requires
block_count-stmt_count-requires t c =
    let small : stmt_nodes (stmt_of c.stmt-item.result) ≤ block_nodes (block_of (map stmt_of c.args.stmts.now)) =
    one_stmt stmt_of c.args.stmts.now c.loop-stmt.stmt-index c.stmt-item.result c.loop-stmt-test.true c.stmt-item.is in
    search rules
