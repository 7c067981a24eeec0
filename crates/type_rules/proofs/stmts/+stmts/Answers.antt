use Rattle.std.proofs.Common.{true, false, ◌≡◌, ◌<◌, ◌+◌, [], OnOk, length, map, drop, rules, sym, subst}
use Rattle.cocoon_num.specs.Tree.{Stmt, let_, set_field, if_, havoc_var, havoc_field, fork, send}
use Rattle.cocoon_syntax.specs.TreeOf.{block_of, design_of, expr_of, exprs_of, name_of, stmt_kind_of, stmt_of}
use Rattle.cocoon_syntax.specs.declared.stmt.StmtKind as kinds
use Rattle.cocoon_types.specs.Noting.{Notes}
use Rattle.type_rules.specs.Tests.{in_block, in_expr, in_stmt}
use Rattle.type_rules.specs.Typed.{IsTyped, scope_of}
use Rattle.type_rules.proofs.StmtParts.{havoc_in, havoc_field_in, if_in, fork_in, rest_step, bound_more, ends_more, noted_more}
use Rattle.type_rules.proofs.stmts.+stmts.Goals as goal

pub note_block-loop-stmt-preserved : goal.note_block-loop-stmt-preserved
note_block-loop-stmt-preserved t c =
    let within : c.loop-stmt.stmt-index < length c.args.stmts.now = search rules in
    let a = stmt_of c.stmt-item.result in
    let b = block_of (map stmt_of (drop c.loop-stmt.stmt-index c.args.stmts.now)) in
    let rest = block_of (map stmt_of (drop (c.loop-stmt.stmt-index + 1) c.args.stmts.now)) in
    let next = rest_step c.args.stmts.now c.loop-stmt.stmt-index c.stmt-item.result within c.stmt-item.is in
    record {
      bound = bound_more a (scope_of ([], 0) (design_of c.args.design.now) c.loop-stmt.vars true) c.note_stmt.new.vars c.args.vars.now (c.in_ok-ends.ensures.vars ([], 0)) c.loop-stmt.invariant.bound;
      ends = ends_more c.loop-stmt.ended c.in_ok-ends.ends c.either-ended.result _ a b rest c.either-ended.ensures c.in_ok-ends.ensures.ends next c.loop-stmt.invariant.ends;
      noted = λ w last h.
          c.loop-stmt.invariant.noted w last
          (noted_more c.noting_laws.ensures w (design_of c.args.design.now) c.loop-stmt.vars c.note_stmt.new.vars c.loop-stmt.ended c.in_ok-ends.ends c.either-ended.result a b rest
          c.either-ended.ensures c.in_ok-ends.ensures.ends next (c.in_ok-ends.ensures.vars w) (c.in_ok-ends.ensures.noted w) h);
    }

pub note_fork_and_block-note_block-requires : goal.note_fork_and_block-note_block-requires
note_fork_and_block-note_block-requires t c = (search rules, c.requires)

pub note_fork_and_block-returns-clause-noted : goal.note_fork_and_block-returns-clause-noted
note_fork_and_block-returns-clause-noted t c = λ w.
    let d = design_of c.args.design.now in
    let s = scope_of w d c.args.vars.now true in
    let x = expr_of c.args.condition.now in
    let b = block_of (map stmt_of c.args.body.now) in
    fork_in c.noting_laws.ensures s c.args.ended c.args.at (name_of c.args.name.now) c.args.width x b
    (subst (λ vs. Notes (in_expr (scope_of w d vs true) x) c.args.noted.now c.note_expr-condition.new.noted) c.in_ok-bind.ensures (c.note_expr-condition.ensures.noted w))
    (c.note_fork.ensures s x b (subst (λ vs. IsTyped c.note_expr-condition.result (scope_of w d vs true) x) c.in_ok-bind.ensures (c.note_expr-condition.ensures.typed w)))
    (subst (λ vs. Notes (in_block (scope_of w d vs true) false b) c.note_fork.new.noted c.note_block.new.noted) c.in_ok-bind.ensures (c.in_ok-note_block.ensures.noted w))

pub note_stmt_kind-returns-in_ok-bind-in-Let-clause-noted : goal.note_stmt_kind-returns-in_ok-bind-in-Let-clause-noted
note_stmt_kind-returns-in_ok-bind-in-Let-clause-noted t c = λ w.
    let s = scope_of w (design_of c.args.design.now) c.args.vars.now true in
    let is : stmt_kind_of c.args.kind.now c.args.at ≡ let_ c.args.at (name_of c.in-Let.name) c.in-Let.width (expr_of c.in-Let.value) = search (rules, kinds.the_lemmas) in
    subst (λ (a : Stmt). Notes (in_stmt s c.args.ended a) c.args.noted.now c.note_let_and_value.new.noted) (sym is) (c.note_let_and_value.ensures w)

pub note_stmt_kind-returns-in-SetField-clause-noted : goal.note_stmt_kind-returns-in-SetField-clause-noted
note_stmt_kind-returns-in-SetField-clause-noted t c = λ w.
    let s = scope_of w (design_of c.args.design.now) c.args.vars.now true in
    let is : stmt_kind_of c.args.kind.now c.args.at ≡ set_field c.args.at (name_of c.in-SetField.header) (name_of c.in-SetField.field) (expr_of c.in-SetField.value) = search (rules, kinds.the_lemmas) in
    subst (λ (a : Stmt). Notes (in_stmt s c.args.ended a) c.args.noted.now c.note_set_and_value.new.noted) (sym is) (c.note_set_and_value.ensures w)

pub note_stmt_kind-note_block-requires : goal.note_stmt_kind-note_block-requires
note_stmt_kind-note_block-requires t c = (search (rules, kinds.the_lemmas), c.requires)

pub note_stmt_kind-note_block-requires-in-If : goal.note_stmt_kind-note_block-requires-in-If
note_stmt_kind-note_block-requires-in-If t c = (search (rules, kinds.the_lemmas), c.requires)

pub note_stmt_kind-returns-in_ok-second-in-If-clause-noted : goal.note_stmt_kind-returns-in_ok-second-in-If-clause-noted
note_stmt_kind-returns-in_ok-second-in-If-clause-noted t c = λ w.
    let d = design_of c.args.design.now in
    let s = scope_of w d c.args.vars.now true in
    let x = expr_of c.in-If.condition in
    let a = block_of (map stmt_of c.deref.result.now) in
    let b = block_of (map stmt_of c.deref-in-If.result.now) in
    let is : stmt_kind_of c.args.kind.now c.args.at ≡ if_ c.args.at (expr_of c.in-If.condition) (block_of (map stmt_of c.deref.result.now)) (block_of (map stmt_of c.deref-in-If.result.now)) = search (rules, kinds.the_lemmas) in
    subst (λ (z : Stmt). Notes (in_stmt s c.args.ended z) c.args.noted.now c.note_block-in-If.new.noted) (sym is)
    (if_in c.noting_laws.ensures s c.args.ended c.args.at x a b (c.note_expr-condition.ensures.noted w)
    (c.note_condition.ensures.branch s x a b (c.note_expr-condition.ensures.typed w))
    (c.in_ok-first-in-If.ensures.noted w)
    (subst (λ vs. Notes (in_block (scope_of w d vs true) false b) c.note_block.new.noted c.note_block-in-If.new.noted) c.in_ok-first-in-If.ensures.vars (c.in_ok-second-in-If.ensures.noted w)))

pub note_stmt_kind-returns-in_ok-bind-in-HavocVar-clause-noted : goal.note_stmt_kind-returns-in_ok-bind-in-HavocVar-clause-noted
note_stmt_kind-returns-in_ok-bind-in-HavocVar-clause-noted t c = λ w.
    let s = scope_of w (design_of c.args.design.now) c.args.vars.now true in
    let is : stmt_kind_of c.args.kind.now c.args.at ≡ havoc_var c.args.at (name_of c.in-HavocVar.name) c.in-HavocVar.width = search (rules, kinds.the_lemmas) in
    subst (λ (a : Stmt). Notes (in_stmt s c.args.ended a) c.args.noted.now c.note_havoc.new.noted) (sym is)
    (havoc_in c.noting_laws.ensures s c.args.ended c.args.at (name_of c.in-HavocVar.name) c.in-HavocVar.width (c.note_havoc.ensures s))

pub note_stmt_kind-returns-in-HavocField-clause-noted : goal.note_stmt_kind-returns-in-HavocField-clause-noted
note_stmt_kind-returns-in-HavocField-clause-noted t c = λ w.
    let s = scope_of w (design_of c.args.design.now) c.args.vars.now true in
    let h = name_of c.in-HavocField.field-0 in
    let f = name_of c.in-HavocField.field-1 in
    let is : stmt_kind_of c.args.kind.now c.args.at ≡ havoc_field c.args.at (name_of c.in-HavocField.field-0) (name_of c.in-HavocField.field-1) = search (rules, kinds.the_lemmas) in
    subst (λ (a : Stmt). Notes (in_stmt s c.args.ended a) c.args.noted.now c.note_havoc_field.new.noted) (sym is)
    (havoc_field_in c.noting_laws.ensures s c.args.ended c.args.at h f (c.note_havoc_field.ensures s h f))

pub note_stmt_kind-note_fork_and_block-requires : goal.note_stmt_kind-note_fork_and_block-requires
note_stmt_kind-note_fork_and_block-requires t c = (search (rules, kinds.the_lemmas), c.requires)

pub note_stmt_kind-returns-in-Fork-clause-noted : goal.note_stmt_kind-returns-in-Fork-clause-noted
note_stmt_kind-returns-in-Fork-clause-noted t c = λ w.
    let s = scope_of w (design_of c.args.design.now) c.args.vars.now true in
    let is : stmt_kind_of c.args.kind.now c.args.at ≡ fork c.args.at (name_of c.in-Fork.name) c.in-Fork.width (expr_of c.in-Fork.condition) (block_of (map stmt_of c.deref-in-Fork.result.now)) = search (rules, kinds.the_lemmas) in
    subst (λ (z : Stmt). OnOk c.note_fork_and_block.result (Notes (in_stmt s c.args.ended z) c.args.noted.now c.note_fork_and_block.new.noted)) (sym is) (c.note_fork_and_block.ensures.noted w)

pub note_stmt_kind-returns-in-Send-clause-noted : goal.note_stmt_kind-returns-in-Send-clause-noted
note_stmt_kind-returns-in-Send-clause-noted t c = λ w.
    let s = scope_of w (design_of c.args.design.now) c.args.vars.now true in
    let is : stmt_kind_of c.args.kind.now c.args.at ≡ send c.args.at (name_of c.in-Send.role) (exprs_of (map expr_of c.deref-in-Send.result.now)) = search (rules, kinds.the_lemmas) in
    subst (λ (z : Stmt). Notes (in_stmt s c.args.ended z) c.args.noted.now c.note_send_and_values.new.noted) (sym is) (c.note_send_and_values.ensures w)
