use Rattle.std.proofs.Common.{◌≡◌, ◌||◌, map, rules, sym, ap, ◌∙◌}
use Rattle.cocoon_num.specs.Lists.{is_one_of}
use Rattle.cocoon_num.specs.Tree.{Stmt, fork}
use Rattle.cocoon_syntax.specs.TreeOf.{block_of, expr_of, name_of, stmt_of}
use Rattle.cocoon_syntax.specs.declared.stmt.StmtKind as kinds
use Rattle.runtime_defs.specs.Sets.{forks_in, forks_of}
use Rattle.runtime_defs.proofs.LiteralCalls.{fork_case, rest-step}
use Rattle.runtime_defs.proofs.literal_functions.+forks.Goals as goal

pub is_in_forks-loop-stmt-preserved : goal.is_in_forks-loop-stmt-preserved
is_in_forks-loop-stmt-preserved t c =
    rest-step c.args.stmts.now c.loop-stmt.stmt-index c.stmt-item.result c.args.function.now c.loop-stmt-test.true c.stmt-item.is
    (sym c.is_in_stmt_forks.ensures ∙ c.if-is_in_stmt_forks.false) ∙ c.loop-stmt.invariant

pub is_in_stmt_forks-returns-then-here : goal.is_in_stmt_forks-returns-then-here
is_in_stmt_forks-returns-then-here t c =
    let x = c.args.function.now in
    let b = block_of (map stmt_of c.deref-in-Fork.result.now) in
    let is : stmt_of c.args.stmt.now ≡ fork c.args.stmt.now.at (name_of c.in-Fork.field-0) c.in-Fork.field-1 (expr_of c.in-Fork.condition) (block_of (map stmt_of c.deref-in-Fork.result.now)) = search (rules, kinds.the_lemmas) in
    c.if-here.true
    ∙ sym (ap (λ (s : Stmt). is_one_of (forks_of s) x) is
    ∙ fork_case c.args.stmt.now.at (name_of c.in-Fork.field-0) c.in-Fork.field-1 (expr_of c.in-Fork.condition) b c.called.result.now x c.called.ensures
    ∙ ap (λ y. y || is_one_of (forks_in b) x) (sym c.is_same-here.ensures ∙ c.if-here.true))

pub is_in_stmt_forks-returns-else-here : goal.is_in_stmt_forks-returns-else-here
is_in_stmt_forks-returns-else-here t c =
    let x = c.args.function.now in
    let b = block_of (map stmt_of c.deref-in-Fork.result.now) in
    let is : stmt_of c.args.stmt.now ≡ fork c.args.stmt.now.at (name_of c.in-Fork.field-0) c.in-Fork.field-1 (expr_of c.in-Fork.condition) (block_of (map stmt_of c.deref-in-Fork.result.now)) = search (rules, kinds.the_lemmas) in
    c.is_in_forks-inside.ensures
    ∙ sym (ap (λ (s : Stmt). is_one_of (forks_of s) x) is
    ∙ fork_case c.args.stmt.now.at (name_of c.in-Fork.field-0) c.in-Fork.field-1 (expr_of c.in-Fork.condition) b c.called.result.now x c.called.ensures
    ∙ ap (λ y. y || is_one_of (forks_in b) x) (sym c.is_same-here.ensures ∙ c.if-here.false))
