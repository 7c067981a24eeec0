use Rattle.std.proofs.Common.{◌≡◌, ◌<◌, length, map, rules, refl, sym, subst}
use Rattle.cocoon_num.specs.Tree.{Expr, field, call, unary, binary, slice, pick}
use Rattle.cocoon_syntax.specs.TreeOf.{binary_of, design_of, expr_of, exprs_of, kind_of, name_of, unary_of}
use Rattle.cocoon_syntax.specs.declared.expr.ExprKind as kinds
use Rattle.cocoon_types.specs.Noting.{Notes}
use Rattle.name_rules.specs.Tests.{in_expr, in_exprs, scope_at}
use Rattle.name_rules.proofs.ExprParts.{field_in, call_in, unary_in, binary_in, slice_in, pick_in, values_step}
use Rattle.name_rules.proofs.exprs.+note.Goals as goal

pub note_kind-returns-in-Field : goal.note_kind-returns-in-Field
note_kind-returns-in-Field t c = λ packet.
    let s = scope_at (design_of c.args.design.now) c.args.point c.args.vars.now packet in
    let is : kind_of c.args.kind.now c.args.at ≡ field c.args.at (name_of c.in-Field.header) (name_of c.in-Field.field) = search (rules, kinds.the_lemmas) in
    subst (λ (e : Expr). Notes (in_expr s e) c.args.noted.now c.note_field.new.noted) (sym is)
    (field_in c.noting_laws.ensures s c.args.at (name_of c.in-Field.header) (name_of c.in-Field.field) (c.note_field.ensures s refl))

pub note_kind-returns-in-Call : goal.note_kind-returns-in-Call
note_kind-returns-in-Call t c = λ packet.
    let s = scope_at (design_of c.args.design.now) c.args.point c.args.vars.now packet in
    let is : kind_of c.args.kind.now c.args.at ≡ call c.args.at (name_of c.in-Call.function) (exprs_of (map expr_of c.in-Call.args.items)) = search (rules, kinds.the_lemmas) in
    subst (λ (e : Expr). Notes (in_expr s e) c.args.noted.now c.note_args.new.noted) (sym is)
    (call_in c.noting_laws.ensures s c.args.at (name_of c.in-Call.function) (map expr_of c.in-Call.args.items)
    (c.note_function.ensures c.args.vars.now packet c.args.at (exprs_of (map expr_of c.in-Call.args.items)))
    (subst (λ xs. Notes (in_exprs s (map expr_of xs)) c.note_function.new.noted c.note_args.new.noted) c.deref.ensures.value (c.note_args.ensures packet)))

pub note_kind-returns-in-Unary : goal.note_kind-returns-in-Unary
note_kind-returns-in-Unary t c = λ packet.
    let s = scope_at (design_of c.args.design.now) c.args.point c.args.vars.now packet in
    let is : kind_of c.args.kind.now c.args.at ≡ unary c.args.at (unary_of c.in-Unary.field-0) (expr_of c.deref-in-Unary.result.now) = search (rules, kinds.the_lemmas) in
    subst (λ (e : Expr). Notes (in_expr s e) c.args.noted.now c.note_expr.new.noted) (sym is)
    (unary_in c.noting_laws.ensures s c.args.at (unary_of c.in-Unary.field-0) (expr_of c.deref-in-Unary.result.now) (c.note_expr.ensures packet))

pub note_kind-returns-in-Binary : goal.note_kind-returns-in-Binary
note_kind-returns-in-Binary t c = λ packet.
    let s = scope_at (design_of c.args.design.now) c.args.point c.args.vars.now packet in
    let is : kind_of c.args.kind.now c.args.at ≡ binary c.args.at (binary_of c.in-Binary.field-0) (expr_of c.deref-in-Binary.result.now) (expr_of c.deref-in-Binary-2.result.now) = search (rules, kinds.the_lemmas) in
    subst (λ (e : Expr). Notes (in_expr s e) c.args.noted.now c.note_expr-in-Binary-2.new.noted) (sym is)
    (binary_in c.noting_laws.ensures s c.args.at (binary_of c.in-Binary.field-0) (expr_of c.deref-in-Binary.result.now) (expr_of c.deref-in-Binary-2.result.now)
    (c.note_expr-in-Binary.ensures packet) (c.note_expr-in-Binary-2.ensures packet))

pub note_kind-returns-in-Slice : goal.note_kind-returns-in-Slice
note_kind-returns-in-Slice t c = λ packet.
    let s = scope_at (design_of c.args.design.now) c.args.point c.args.vars.now packet in
    let is : kind_of c.args.kind.now c.args.at ≡ slice c.args.at (expr_of c.deref-in-Slice.result.now) c.in-Slice.field-1 c.in-Slice.field-2 = search (rules, kinds.the_lemmas) in
    subst (λ (e : Expr). Notes (in_expr s e) c.args.noted.now c.note_expr-in-Slice.new.noted) (sym is)
    (slice_in c.noting_laws.ensures s c.args.at (expr_of c.deref-in-Slice.result.now) c.in-Slice.field-1 c.in-Slice.field-2 (c.note_expr-in-Slice.ensures packet))

pub note_kind-returns-in-Pick : goal.note_kind-returns-in-Pick
note_kind-returns-in-Pick t c = λ packet.
    let s = scope_at (design_of c.args.design.now) c.args.point c.args.vars.now packet in
    let is : kind_of c.args.kind.now c.args.at ≡ pick c.args.at (expr_of c.deref-in-Pick.result.now) (expr_of c.deref-in-Pick-2.result.now) (expr_of c.deref-in-Pick-3.result.now) = search (rules, kinds.the_lemmas) in
    subst (λ (e : Expr). Notes (in_expr s e) c.args.noted.now c.note_expr-in-Pick-3.new.noted) (sym is)
    (pick_in c.noting_laws.ensures s c.args.at (expr_of c.deref-in-Pick.result.now) (expr_of c.deref-in-Pick-2.result.now) (expr_of c.deref-in-Pick-3.result.now)
    (c.note_expr-in-Pick.ensures packet) (c.note_expr-in-Pick-2.ensures packet) (c.note_expr-in-Pick-3.ensures packet))

pub note_args-loop-arg-preserved : goal.note_args-loop-arg-preserved
note_args-loop-arg-preserved t c = λ packet last h.
    let within : c.loop-arg.arg-index < length c.args.args.now = search rules in
    c.loop-arg.invariant packet last
    (values_step c.noting_laws.ensures (scope_at (design_of c.args.design.now) c.args.point c.args.vars.now packet) c.args.args.now c.loop-arg.arg-index c.arg-item.result within c.arg-item.is (c.note_expr.ensures packet) h)
