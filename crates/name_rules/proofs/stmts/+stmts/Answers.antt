use Rattle.std.proofs.Common.{true, false, ◌≡◌, ◌||◌, ◌<◌, ◌≤◌, ◌+◌, [], length, map, drop, OnOk, rules, refl, sym, subst}
use Rattle.std.proofs.lemmas.List.{drop_all}
use Rattle.cocoon_num.specs.Tree.{Stmt, let_, set_field, if_, filter, havoc_var, havoc_field, assume, fork, send}
use Rattle.cocoon_syntax.specs.TreeOf.{block_of, design_of, expr_of, exprs_of, name_of, stmt_kind_of, stmt_of}
use Rattle.cocoon_syntax.specs.declared.stmt.StmtKind as kinds
use Rattle.cocoon_types.specs.Noting.{Notes}
use Rattle.cocoon_types.specs.Sites.{stmt_ends}
use Rattle.name_rules.specs.Tests.{in_block, in_expr, in_exprs, in_stmt, scope_at}
use Rattle.name_rules.proofs.StmtParts.{set_in, filter_in, assume_in, havoc_field_in, send_in, if_in, fork_in, rest_step, bound_more, noted_more}
use Rattle.name_rules.proofs.stmts.+stmts.Goals as goal

pub note_block-loop-stmt-init : goal.note_block-loop-stmt-init
note_block-loop-stmt-init t c = record {
  bound = ([], refl);
  noted = λ ended. (ended, λ last h. h);
}

pub note_block-loop-stmt-preserved : goal.note_block-loop-stmt-preserved
note_block-loop-stmt-preserved t c =
    let within : c.loop-stmt.stmt-index < length c.args.stmts.now = search rules in
    let d = design_of c.args.design.now in
    let a = stmt_of c.stmt-item.result in
    let b = block_of (map stmt_of (drop c.loop-stmt.stmt-index c.args.stmts.now)) in
    let rest = block_of (map stmt_of (drop (c.loop-stmt.stmt-index + 1) c.args.stmts.now)) in
    let next = rest_step c.args.stmts.now c.loop-stmt.stmt-index c.stmt-item.result within c.stmt-item.is in
    record {
      bound = bound_more a (scope_at d c.args.point c.loop-stmt.vars true) c.note_stmt.new.vars c.args.vars.now c.in_ok-note_stmt.ensures.vars c.loop-stmt.invariant.bound;
      noted = λ ended.
          let held = c.loop-stmt.invariant.noted ended in (
            held.0 || stmt_ends a,
            λ last h.
                held.1 last
                (noted_more c.noting_laws.ensures d c.args.point c.loop-stmt.vars c.note_stmt.new.vars held.0 a b rest next c.in_ok-note_stmt.ensures.vars (c.in_ok-note_stmt.ensures.noted held.0) h),
          );
    }

pub note_block-returns-clause-noted : goal.note_block-returns-clause-noted
note_block-returns-clause-noted t c = λ ended.
    let all : length c.args.stmts.now ≤ c.loop-stmt.stmt-index = search rules in
    let held = c.loop-stmt.invariant.noted ended in
    held.1 c.loop-stmt.noted
    (subst (λ xs. Notes (in_block (scope_at (design_of c.args.design.now) c.args.point c.loop-stmt.vars true) held.0 (block_of (map stmt_of xs))) c.loop-stmt.noted c.loop-stmt.noted) (sym (drop_all c.loop-stmt.stmt-index c.args.stmts.now all))
    (c.noting_laws.ensures.nothing _ c.loop-stmt.noted (λ f. refl)))

pub note_fork-note_block-requires : goal.note_fork-note_block-requires
note_fork-note_block-requires t c = (search rules, c.requires)

pub note_fork-returns-clause-noted : goal.note_fork-returns-clause-noted
note_fork-returns-clause-noted t c = λ ended at.
    let d = design_of c.args.design.now in
    let s = scope_at d c.args.point c.args.vars.now true in
    let x = expr_of c.args.condition.now in
    let b = block_of (map stmt_of c.args.body.now) in
    fork_in c.noting_laws.ensures s ended at (name_of c.args.name.now) c.args.width x b c.note_bound.ensures
    (subst (λ vs. Notes (in_expr (scope_at d c.args.point vs true) x) c.note_bound.new.noted c.note_expr.new.noted) c.in_ok-bind.ensures (c.note_expr.ensures true))
    (subst (λ vs. Notes (in_block (scope_at d c.args.point vs true) false b) c.note_expr.new.noted c.note_block.new.noted) c.in_ok-bind.ensures (c.in_ok-note_block.ensures.noted false))

pub note_stmt_kind-note_block-requires : goal.note_stmt_kind-note_block-requires
note_stmt_kind-note_block-requires t c = (search (rules, kinds.the_lemmas), c.requires)

pub note_stmt_kind-note_block-requires-in-If : goal.note_stmt_kind-note_block-requires-in-If
note_stmt_kind-note_block-requires-in-If t c = (search (rules, kinds.the_lemmas), c.requires)

pub note_stmt_kind-returns-in-Let-clause-noted : goal.note_stmt_kind-returns-in-Let-clause-noted
note_stmt_kind-returns-in-Let-clause-noted t c = λ ended.
    let s = scope_at (design_of c.args.design.now) c.args.point c.args.vars.now true in
    let is : stmt_kind_of c.args.kind.now c.args.at ≡ let_ c.args.at (name_of c.in-Let.name) c.in-Let.width (expr_of c.in-Let.value) = search (rules, kinds.the_lemmas) in
    subst (λ (a : Stmt). OnOk c.note_let.result (Notes (in_stmt s ended a) c.args.noted.now c.note_let.new.noted)) (sym is) (c.note_let.ensures.noted ended c.args.at)

pub note_stmt_kind-returns-in-SetField-clause-noted : goal.note_stmt_kind-returns-in-SetField-clause-noted
note_stmt_kind-returns-in-SetField-clause-noted t c = λ ended.
    let s = scope_at (design_of c.args.design.now) c.args.point c.args.vars.now true in
    let is : stmt_kind_of c.args.kind.now c.args.at ≡ set_field c.args.at (name_of c.in-SetField.header) (name_of c.in-SetField.field) (expr_of c.in-SetField.value) = search (rules, kinds.the_lemmas) in
    subst (λ (a : Stmt). Notes (in_stmt s ended a) c.args.noted.now c.note_expr.new.noted) (sym is)
    (set_in c.noting_laws.ensures s ended c.args.at (name_of c.in-SetField.header) (name_of c.in-SetField.field) (expr_of c.in-SetField.value) (c.note_field.ensures s refl) (c.note_expr.ensures true))

pub note_stmt_kind-returns-in_ok-note_block-in-If-2-clause-noted : goal.note_stmt_kind-returns-in_ok-note_block-in-If-2-clause-noted
note_stmt_kind-returns-in_ok-note_block-in-If-2-clause-noted t c = λ ended.
    let d = design_of c.args.design.now in
    let s = scope_at d c.args.point c.args.vars.now true in
    let b = block_of (map stmt_of c.deref-in-If.result.now) in
    let is : stmt_kind_of c.args.kind.now c.args.at ≡ if_ c.args.at (expr_of c.in-If.condition) (block_of (map stmt_of c.deref.result.now)) (block_of (map stmt_of c.deref-in-If.result.now)) = search (rules, kinds.the_lemmas) in
    subst (λ (a : Stmt). Notes (in_stmt s ended a) c.args.noted.now c.note_block-in-If.new.noted) (sym is)
    (if_in c.noting_laws.ensures s ended c.args.at (expr_of c.in-If.condition) (block_of (map stmt_of c.deref.result.now)) b (c.note_expr-in-If.ensures true)
    (c.in_ok-note_block-in-If.ensures.noted false)
    (subst (λ vs. Notes (in_block (scope_at d c.args.point vs true) false b) c.note_block.new.noted c.note_block-in-If.new.noted) c.in_ok-note_block-in-If.ensures.vars (c.in_ok-note_block-in-If-2.ensures.noted false)))

pub note_stmt_kind-returns-in-Filter-clause-noted : goal.note_stmt_kind-returns-in-Filter-clause-noted
note_stmt_kind-returns-in-Filter-clause-noted t c = λ ended.
    let s = scope_at (design_of c.args.design.now) c.args.point c.args.vars.now true in
    let is : stmt_kind_of c.args.kind.now c.args.at ≡ filter c.args.at (expr_of c.in-Filter.condition) = search (rules, kinds.the_lemmas) in
    subst (λ (a : Stmt). Notes (in_stmt s ended a) c.args.noted.now c.note_expr-in-Filter.new.noted) (sym is)
    (filter_in c.noting_laws.ensures s ended c.args.at (expr_of c.in-Filter.condition) (c.note_expr-in-Filter.ensures true))

pub note_stmt_kind-returns-in-Assume-clause-noted : goal.note_stmt_kind-returns-in-Assume-clause-noted
note_stmt_kind-returns-in-Assume-clause-noted t c = λ ended.
    let s = scope_at (design_of c.args.design.now) c.args.point c.args.vars.now true in
    let is : stmt_kind_of c.args.kind.now c.args.at ≡ assume c.args.at (expr_of c.in-Assume.condition) = search (rules, kinds.the_lemmas) in
    subst (λ (a : Stmt). Notes (in_stmt s ended a) c.args.noted.now c.note_expr-in-Assume.new.noted) (sym is)
    (assume_in c.noting_laws.ensures s ended c.args.at (expr_of c.in-Assume.condition) (c.note_expr-in-Assume.ensures true))

pub note_stmt_kind-returns-in-HavocVar-clause-noted : goal.note_stmt_kind-returns-in-HavocVar-clause-noted
note_stmt_kind-returns-in-HavocVar-clause-noted t c = λ ended.
    let d = design_of c.args.design.now in
    let s = scope_at d c.args.point c.args.vars.now true in
    let is : stmt_kind_of c.args.kind.now c.args.at ≡ havoc_var c.args.at (name_of c.in-HavocVar.name) c.in-HavocVar.width = search (rules, kinds.the_lemmas) in
    subst (λ (a : Stmt). OnOk c.note_havoc.result (Notes (in_stmt s ended a) c.args.noted.now c.note_havoc.new.noted)) (sym is) (c.note_havoc.ensures.noted d c.args.point ended c.args.at)

pub note_stmt_kind-returns-in-HavocField-clause-noted : goal.note_stmt_kind-returns-in-HavocField-clause-noted
note_stmt_kind-returns-in-HavocField-clause-noted t c = λ ended.
    let s = scope_at (design_of c.args.design.now) c.args.point c.args.vars.now true in
    let is : stmt_kind_of c.args.kind.now c.args.at ≡ havoc_field c.args.at (name_of c.in-HavocField.header) (name_of c.in-HavocField.field) = search (rules, kinds.the_lemmas) in
    subst (λ (a : Stmt). Notes (in_stmt s ended a) c.args.noted.now c.note_field-in-HavocField.new.noted) (sym is)
    (havoc_field_in c.noting_laws.ensures s ended c.args.at (name_of c.in-HavocField.header) (name_of c.in-HavocField.field) (c.note_field-in-HavocField.ensures s refl))

pub note_stmt_kind-note_fork-requires : goal.note_stmt_kind-note_fork-requires
note_stmt_kind-note_fork-requires t c = (search (rules, kinds.the_lemmas), c.requires)

pub note_stmt_kind-returns-in-Fork-clause-noted : goal.note_stmt_kind-returns-in-Fork-clause-noted
note_stmt_kind-returns-in-Fork-clause-noted t c = λ ended.
    let s = scope_at (design_of c.args.design.now) c.args.point c.args.vars.now true in
    let is : stmt_kind_of c.args.kind.now c.args.at ≡ fork c.args.at (name_of c.in-Fork.name) c.in-Fork.width (expr_of c.in-Fork.condition) (block_of (map stmt_of c.deref-in-Fork.result.now)) = search (rules, kinds.the_lemmas) in
    subst (λ (a : Stmt). OnOk c.note_fork.result (Notes (in_stmt s ended a) c.args.noted.now c.note_fork.new.noted)) (sym is) (c.note_fork.ensures.noted ended c.args.at)

pub note_stmt_kind-returns-in-Send-clause-noted : goal.note_stmt_kind-returns-in-Send-clause-noted
note_stmt_kind-returns-in-Send-clause-noted t c = λ ended.
    let s = scope_at (design_of c.args.design.now) c.args.point c.args.vars.now true in
    let is : stmt_kind_of c.args.kind.now c.args.at ≡ send c.args.at (name_of c.in-Send.role) (exprs_of (map expr_of c.in-Send.args.items)) = search (rules, kinds.the_lemmas) in
    subst (λ (a : Stmt). Notes (in_stmt s ended a) c.args.noted.now c.note_args.new.noted) (sym is)
    (send_in c.noting_laws.ensures s ended c.args.at (name_of c.in-Send.role) (map expr_of c.in-Send.args.items) (c.note_role.ensures s refl refl)
    (subst (λ xs. Notes (in_exprs s (map expr_of xs)) c.note_role.new.noted c.note_args.new.noted) c.deref-in-Send.ensures.value (c.note_args.ensures true)))
