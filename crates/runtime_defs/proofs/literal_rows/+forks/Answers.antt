use Rattle.std.proofs.Common.{◌≡◌, ℕ, ◌++◌, ◌∷◌, [], List, map, take, rules, append_assoc, sym, ap, subst, ◌∙◌}
use Rattle.std.specs.Prelude.{OnOk}
use Rattle.std.proofs.lemmas.List.{take_all}
use Rattle.cocoon_num.specs.Tree.{Stmt, if_, fork}
use Rattle.cocoon_syntax.specs.TreeOf.{block_of, design_of, expr_of, name_of, stmt_of}
use Rattle.cocoon_syntax.specs.declared.stmt.StmtKind as kinds
use Rattle.cocoon_types.specs.LastLevel.{called}
use Rattle.runtime_defs.specs.Sets.{forks_in, forks_of, Holds}
use Rattle.runtime_defs.proofs.Calls.{forks-more}
use Rattle.runtime_defs.proofs.literal_rows.+forks.Goals as goal

pub add_forks-loop-stmt-preserved : goal.add_forks-loop-stmt-preserved
add_forks-loop-stmt-preserved t c = λ fs h.
    subst (λ names. Holds (design_of c.args.checked.now) names c.add_stmt_forks.new.set)
    (forks-more c.args.stmts.now c.loop-stmt.stmt-index c.stmt-item.result fs c.loop-stmt-test.true c.stmt-item.is)
    (c.in_ok-add_stmt_forks.ensures (forks_in (block_of (map stmt_of (take c.loop-stmt.stmt-index c.args.stmts.now))) ++ fs) (c.loop-stmt.invariant fs h))

pub add_forks-returns : goal.add_forks-returns
add_forks-returns t c = λ fs h.
    let whole : take c.loop-stmt.stmt-index c.args.stmts.now ≡ c.args.stmts.now = take_all c.loop-stmt.stmt-index c.args.stmts.now c.loop-stmt-test.false in
    subst (λ ss. Holds (design_of c.args.checked.now) (forks_in (block_of (map stmt_of ss)) ++ fs) c.loop-stmt.set) whole (c.loop-stmt.invariant fs h)

pub add_stmt_forks-returns-in_ok-add_forks-in-If : goal.add_stmt_forks-returns-in_ok-add_forks-in-If
add_stmt_forks-returns-in_ok-add_forks-in-If t c = λ fs h.
    let d = design_of c.args.checked.now in
    let a = block_of (map stmt_of c.deref.result.now) in
    let b = block_of (map stmt_of c.deref-in-If.result.now) in
    let is : stmt_of c.args.stmt.now ≡ if_ c.args.stmt.now.at (expr_of c.in-If.field-0) (block_of (map stmt_of c.deref.result.now)) (block_of (map stmt_of c.deref-in-If.result.now)) = search (rules, kinds.the_lemmas) in
    subst (λ (names : List (List ℕ)). OnOk c.add_forks-in-If.result (Holds d names c.add_forks-in-If.new.set))
    (sym (append_assoc (forks_in b) (forks_in a) fs) ∙ ap (λ (s : Stmt). forks_of s ++ fs) (sym is))
    (c.add_forks-in-If.ensures (forks_in a ++ fs) (c.in_ok-add_forks-in-If.ensures fs h))

pub add_stmt_forks-returns-in_ok-add-in-Fork : goal.add_stmt_forks-returns-in_ok-add-in-Fork
add_stmt_forks-returns-in_ok-add-in-Fork t c = λ fs h.
    let d = design_of c.args.checked.now in
    let x = called (expr_of c.in-Fork.condition) in
    let b = block_of (map stmt_of c.deref-in-Fork.result.now) in
    let is : stmt_of c.args.stmt.now ≡ fork c.args.stmt.now.at (name_of c.in-Fork.field-0) c.in-Fork.field-1 (expr_of c.in-Fork.condition) (block_of (map stmt_of c.deref-in-Fork.result.now)) = search (rules, kinds.the_lemmas) in
    subst (λ (names : List (List ℕ)). OnOk c.add_forks-in-Fork.result (Holds d names c.add_forks-in-Fork.new.set))
    (ap (λ y. forks_in b ++ (y ∷ fs)) c.called.ensures ∙ sym (append_assoc (forks_in b) (x ∷ []) fs) ∙ ap (λ (s : Stmt). forks_of s ++ fs) (sym is))
    (c.add_forks-in-Fork.ensures (c.called.result.now ∷ fs) (c.in_ok-add-in-Fork.ensures fs h))
