use Rattle.std.proofs.Common.{◌≡◌, ◌+◌, ◌||◌, true, [], ◌∷◌, map, drop, rules, sym, ap, subst, ◌∙◌}
use Rattle.cocoon_num.specs.Tree.{Stmt, if_, fork}
use Rattle.cocoon_syntax.specs.TreeOf.{block_of, design_of, expr_of, name_of, stmt_of}
use Rattle.cocoon_syntax.specs.declared.stmt.StmtKind as kinds
use Rattle.cocoon_types.specs.Noting.{Notes}
use Rattle.form_rules.specs.Stmts.{stmts_of, has_fork, holds_fork, forks_well}
use Rattle.form_rules.specs.Tested.{beside_forks, in_stmt}
use Rattle.form_rules.proofs.StmtFacts.{plain, if-notes, fork-notes, block-notes, rest-step, if-forks, forks-more}
use Rattle.form_rules.proofs.stmts.+stmts.Goals as goal

pub note_block-loop-stmt-preserved : goal.note_block-loop-stmt-preserved
note_block-loop-stmt-preserved t c =
    let a = stmt_of c.stmt-item.result in
    let b = block_of (map stmt_of (drop c.loop-stmt.stmt-index c.args.stmts.now)) in
    let rest = block_of (map stmt_of (drop (c.loop-stmt.stmt-index + 1) c.args.stmts.now)) in
    let next = rest-step c.args.stmts.now c.loop-stmt.stmt-index c.stmt-item.result c.loop-stmt-test.true c.stmt-item.is in
    record {
      forks = forks-more c.loop-stmt.forks c.note_stmt-more.result c.either-forks.result (holds_fork (block_of (map stmt_of c.args.stmts.now))) a b rest c.either-forks.ensures c.note_stmt-more.ensures.forks next c.loop-stmt.invariant.forks;
      noted = λ last h. c.loop-stmt.invariant.noted last (block-notes c.noting_laws.ensures (design_of c.args.design.now) c.args.asked.now b rest a next c.note_stmt-more.ensures.noted h);
    }

pub note_stmt-note_block-first-requires : goal.note_stmt-note_block-first-requires
note_stmt-note_block-first-requires t c = (search (rules, kinds.the_lemmas), c.requires)

pub note_stmt-note_block-second-requires : goal.note_stmt-note_block-second-requires
note_stmt-note_block-second-requires t c = (search (rules, kinds.the_lemmas), c.requires)

pub note_stmt-returns-in-If-clause-forks : goal.note_stmt-returns-in-If-clause-forks
note_stmt-returns-in-If-clause-forks t c =
    let is : stmt_of c.args.stmt.now ≡ if_ c.args.stmt.now.at (expr_of c.in-If.field-0) (block_of (map stmt_of c.deref.result.now)) (block_of (map stmt_of c.deref-in-If.result.now)) = search (rules, kinds.the_lemmas) in
    c.either.ensures ∙ (λ i. c.note_block-first.ensures.forks i || c.note_block-second.ensures.forks i)
    ∙ sym (ap has_fork is ∙ if-forks c.args.stmt.now.at (expr_of c.in-If.field-0) (block_of (map stmt_of c.deref.result.now)) (block_of (map stmt_of c.deref-in-If.result.now)))

pub note_stmt-returns-in-If-clause-noted : goal.note_stmt-returns-in-If-clause-noted
note_stmt-returns-in-If-clause-noted t c =
    let d = design_of c.args.design.now in
    let asked = c.args.asked.now in
    let is : stmt_of c.args.stmt.now ≡ if_ c.args.stmt.now.at (expr_of c.in-If.field-0) (block_of (map stmt_of c.deref.result.now)) (block_of (map stmt_of c.deref-in-If.result.now)) = search (rules, kinds.the_lemmas) in
    subst (λ (z : Stmt). Notes (in_stmt d asked z) c.args.noted.now c.note_block-second.new.noted) (sym is)
    (if-notes c.noting_laws.ensures d asked c.args.stmt.now.at (expr_of c.in-If.field-0) (block_of (map stmt_of c.deref.result.now)) (block_of (map stmt_of c.deref-in-If.result.now))
    (subst (λ (z : Stmt). Notes (beside_forks asked z) c.args.noted.now c.note_itself.new.noted) is c.note_itself.ensures)
    c.note_block-first.ensures.noted c.note_block-second.ensures.noted)

pub note_stmt-returns-in-Fork-clause-noted : goal.note_stmt-returns-in-Fork-clause-noted
note_stmt-returns-in-Fork-clause-noted t c =
    let d = design_of c.args.design.now in
    let asked = c.args.asked.now in
    let b = block_of (map stmt_of c.deref-in-Fork.result.now) in
    let is : stmt_of c.args.stmt.now ≡ fork c.args.stmt.now.at (name_of c.in-Fork.variable) c.in-Fork.field-1 (expr_of c.in-Fork.condition) (block_of (map stmt_of c.deref-in-Fork.result.now)) = search (rules, kinds.the_lemmas) in
    subst (λ (z : Stmt). Notes (in_stmt d asked z) c.args.noted.now c.note_fork.new.noted) (sym is)
    (fork-notes c.noting_laws.ensures d asked c.args.stmt.now.at (name_of c.in-Fork.variable) c.in-Fork.field-1 (expr_of c.in-Fork.condition) b
    (subst (λ (z : Stmt). Notes (beside_forks asked z) c.args.noted.now c.note_itself.new.noted) is c.note_itself.ensures)
    c.note_block-forks.ensures.noted (c.note_fork.ensures c.in-Fork.field-1 b c.note_block-forks.ensures.forks))

pub note_stmt-returns-in_default : goal.note_stmt-returns-in_default
note_stmt-returns-in_default t c =
    let alone : stmts_of (stmt_of c.args.stmt.now) ≡ stmt_of c.args.stmt.now ∷ [] = search (rules, kinds.the_lemmas) in
    let well : forks_well (design_of c.args.design.now) (stmt_of c.args.stmt.now) ≡ true = search (rules, kinds.the_lemmas) in
    record {
      forks = search (rules, kinds.the_lemmas);
      noted = plain c.noting_laws.ensures (design_of c.args.design.now) c.args.asked.now (stmt_of c.args.stmt.now) alone well c.note_itself.ensures;
    }
