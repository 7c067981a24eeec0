use Rattle.std.proofs.Common.{◌≡◌, ◌<◌, length, map, take, option_map, Bor, rules, refl, sym, ap, subst, ◌∙◌}
use Rattle.std.proofs.lemmas.List.{take_all}
use Rattle.cocoon_num.specs.Tree.{FunctionDecl, field, call, unary, binary, slice, pick}
use Rattle.cocoon_num.specs.Names.{named}
use Rattle.cocoon_syntax.specs.TreeOf.{binary_of, design_of, expr_of, exprs_of, function_of, kind_of, name_of, param_of, unary_of}
use Rattle.cocoon_syntax.specs.declared.expr.ExprKind as kinds
use Rattle.cocoon_syntax.specs.declared.decl.FunctionDecl.{FunctionDecl as Function}
use Rattle.cocoon_types.specs.Design.{functions, widths_of}
use Rattle.cocoon_types.specs.Noting.{Notes}
use Rattle.type_rules.specs.Tests.{in_expr, in_exprs}
use Rattle.type_rules.specs.Typed.{AreArgs, IsTyped, scope_of}
use Rattle.type_rules.proofs.ExprTests.{field_in, unary_in, binary_in, slice_in, pick_in, call_in}
use Rattle.type_rules.proofs.CallTests.{called, counted, no_values, noted_step, one_value, taken, taken_count}
use Rattle.type_rules.proofs.exprs.+note.Goals as goal

pub note_kind-returns-then-packet-clause-noted : goal.note_kind-returns-then-packet-clause-noted
note_kind-returns-then-packet-clause-noted t c = λ w.
    let s = scope_of w (design_of c.args.design.now) c.args.vars.now c.args.packet in
    let is : kind_of c.args.kind.now c.args.at ≡ field c.args.at (name_of c.in-Field.header) (name_of c.in-Field.field) = search (rules, kinds.the_lemmas) in
    subst (λ e. Notes (in_expr s e) c.args.noted.now c.note_field.new.noted) (sym is)
    (field_in c.noting_laws.ensures s c.args.at (name_of c.in-Field.header) (name_of c.in-Field.field) c.args.noted.now c.note_field.new.noted
    (c.note_field.ensures s (name_of c.in-Field.header) (name_of c.in-Field.field) refl))

pub note_kind-returns-else-packet-clause-noted : goal.note_kind-returns-else-packet-clause-noted
note_kind-returns-else-packet-clause-noted t c = λ w.
    let s = scope_of w (design_of c.args.design.now) c.args.vars.now c.args.packet in
    let is : kind_of c.args.kind.now c.args.at ≡ field c.args.at (name_of c.in-Field.header) (name_of c.in-Field.field) = search (rules, kinds.the_lemmas) in
    subst (λ e. Notes (in_expr s e) c.args.noted.now c.note_field.new.noted) (sym is)
    (field_in c.noting_laws.ensures s c.args.at (name_of c.in-Field.header) (name_of c.in-Field.field) c.args.noted.now c.note_field.new.noted
    (c.note_field.ensures s (name_of c.in-Field.header) (name_of c.in-Field.field) refl))

pub note_kind-returns-in-Unary-clause-noted : goal.note_kind-returns-in-Unary-clause-noted
note_kind-returns-in-Unary-clause-noted t c = λ w.
    let s = scope_of w (design_of c.args.design.now) c.args.vars.now c.args.packet in
    let x = expr_of c.deref-in-Unary.result.now in
    let is : kind_of c.args.kind.now c.args.at ≡ unary c.args.at (unary_of c.in-Unary.op) (expr_of c.deref-in-Unary.result.now) = search (rules, kinds.the_lemmas) in
    subst (λ e. Notes (in_expr s e) c.args.noted.now c.note_unary.new.noted) (sym is)
    (unary_in c.noting_laws.ensures s c.args.at (unary_of c.in-Unary.op) x c.args.noted.now c.note_expr-a.new.noted c.note_unary.new.noted
    (c.note_expr-a.ensures.noted w) (c.note_unary.ensures s x (c.note_expr-a.ensures.typed w)))

pub note_kind-returns-in-Binary-clause-noted : goal.note_kind-returns-in-Binary-clause-noted
note_kind-returns-in-Binary-clause-noted t c = λ w.
    let s = scope_of w (design_of c.args.design.now) c.args.vars.now c.args.packet in
    let x = expr_of c.deref-in-Binary.result.now in
    let y = expr_of c.deref-in-Binary-2.result.now in
    let is : kind_of c.args.kind.now c.args.at ≡ binary c.args.at (binary_of c.in-Binary.op) (expr_of c.deref-in-Binary.result.now) (expr_of c.deref-in-Binary-2.result.now) = search (rules, kinds.the_lemmas) in
    subst (λ e. Notes (in_expr s e) c.args.noted.now c.note_binary.new.noted) (sym is)
    (binary_in c.noting_laws.ensures s c.args.at (binary_of c.in-Binary.op) x y
    c.args.noted.now c.note_expr-first.new.noted c.note_expr-second.new.noted c.note_binary.new.noted (c.note_expr-first.ensures.noted w) (c.note_expr-second.ensures.noted w)
    (c.note_binary.ensures s x y (c.note_expr-first.ensures.typed w) (c.note_expr-second.ensures.typed w)))

pub note_kind-returns-in-Slice-clause-noted : goal.note_kind-returns-in-Slice-clause-noted
note_kind-returns-in-Slice-clause-noted t c = λ w.
    let s = scope_of w (design_of c.args.design.now) c.args.vars.now c.args.packet in
    let x = expr_of c.deref-in-Slice.result.now in
    let is : kind_of c.args.kind.now c.args.at ≡ slice c.args.at (expr_of c.deref-in-Slice.result.now) c.in-Slice.high c.in-Slice.low = search (rules, kinds.the_lemmas) in
    subst (λ e. Notes (in_expr s e) c.args.noted.now c.note_slice.new.noted) (sym is)
    (slice_in c.noting_laws.ensures s c.args.at x c.in-Slice.high c.in-Slice.low
    c.args.noted.now c.note_expr-a-in-Slice.new.noted c.note_slice.new.noted (c.note_expr-a-in-Slice.ensures.noted w)
    (c.note_slice.ensures s x (c.note_expr-a-in-Slice.ensures.typed w)))

pub note_kind-returns-in-Pick-clause-noted : goal.note_kind-returns-in-Pick-clause-noted
note_kind-returns-in-Pick-clause-noted t c = λ w.
    let s = scope_of w (design_of c.args.design.now) c.args.vars.now c.args.packet in
    let x = expr_of c.deref-in-Pick.result.now in
    let y = expr_of c.deref-in-Pick-2.result.now in
    let z = expr_of c.deref-in-Pick-3.result.now in
    let is : kind_of c.args.kind.now c.args.at ≡ pick c.args.at (expr_of c.deref-in-Pick.result.now) (expr_of c.deref-in-Pick-2.result.now) (expr_of c.deref-in-Pick-3.result.now) = search (rules, kinds.the_lemmas) in
    subst (λ e. Notes (in_expr s e) c.args.noted.now c.note_pick.new.noted) (sym is)
    (pick_in c.noting_laws.ensures s c.args.at x y z
    c.args.noted.now c.note_expr-condition.new.noted c.note_expr-first-in-Pick.new.noted c.note_expr-second-in-Pick.new.noted c.note_pick.new.noted
    (c.note_expr-condition.ensures.noted w) (c.note_expr-first-in-Pick.ensures.noted w) (c.note_expr-second-in-Pick.ensures.noted w)
    (c.note_pick.ensures s x y z (c.note_expr-condition.ensures.typed w) (c.note_expr-first-in-Pick.ensures.typed w) (c.note_expr-second-in-Pick.ensures.typed w)))

pub note_kind-returns-in-Call-clause-typed : goal.note_kind-returns-in-Call-clause-typed
note_kind-returns-in-Call-clause-typed t c = λ w.
    let s = scope_of w (design_of c.args.design.now) c.args.vars.now c.args.packet in
    let f = name_of c.in-Call.function in
    let found = option_map (λ (g : Bor Function). function_of g.now) c.function_named-found.result in
    let es = exprs_of (map expr_of c.in-Call.args.items) in
    let known : named (λ (d : FunctionDecl). d.name) f.text (functions (design_of c.args.design.now)) ≡ found =
    ap (λ x. named (λ (d : FunctionDecl). d.name) x (functions (design_of c.args.design.now))) (sym c.bytes-in-Call.ensures) ∙ sym c.function_named-found.ensures in
    let many : c.len.result ≡ length c.in-Call.args.items = search rules in
    let is : kind_of c.args.kind.now c.args.at ≡ call c.args.at (name_of c.in-Call.function) (exprs_of (map expr_of c.in-Call.args.items)) = search (rules, kinds.the_lemmas) in
    subst (λ e. IsTyped (record { at = c.args.at; sort = c.note_call.result }) s e) (sym is)
    (record {
      at = refl;
      sort = c.note_call.ensures.typed s c.args.at es (counted c.len.result c.in-Call.args.items many) known
          (called f found known c.parameters.ensures (ap (λ xs. exprs_of (map expr_of xs)) c.deref.ensures.value) (c.note_args-values.ensures.args w));
    })

pub note_kind-returns-in-Call-clause-noted : goal.note_kind-returns-in-Call-clause-noted
note_kind-returns-in-Call-clause-noted t c = λ w.
    let s = scope_of w (design_of c.args.design.now) c.args.vars.now c.args.packet in
    let f = name_of c.in-Call.function in
    let found = option_map (λ (g : Bor Function). function_of g.now) c.function_named-found.result in
    let es = exprs_of (map expr_of c.in-Call.args.items) in
    let known : named (λ (d : FunctionDecl). d.name) f.text (functions (design_of c.args.design.now)) ≡ found =
    ap (λ x. named (λ (d : FunctionDecl). d.name) x (functions (design_of c.args.design.now))) (sym c.bytes-in-Call.ensures) ∙ sym c.function_named-found.ensures in
    let many : c.len.result ≡ length c.in-Call.args.items = search rules in
    let is : kind_of c.args.kind.now c.args.at ≡ call c.args.at (name_of c.in-Call.function) (exprs_of (map expr_of c.in-Call.args.items)) = search (rules, kinds.the_lemmas) in
    subst (λ e. Notes (in_expr s e) c.args.noted.now c.note_call.new.noted) (sym is)
    (call_in c.noting_laws.ensures s c.args.at f (map expr_of c.in-Call.args.items) c.args.noted.now c.note_args-values.new.noted c.note_call.new.noted
    (subst (λ xs. Notes (in_exprs s (map expr_of xs)) c.args.noted.now c.note_args-values.new.noted) c.deref.ensures.value (c.note_args-values.ensures.noted w))
    (c.note_call.ensures.noted s c.args.at es (counted c.len.result c.in-Call.args.items many) known
    (called f found known c.parameters.ensures (ap (λ xs. exprs_of (map expr_of xs)) c.deref.ensures.value) (c.note_args-values.ensures.args w))))

pub note_args-loop-index-init : goal.note_args-loop-index-init
note_args-loop-index-init t c = record {
  args = λ w. no_values c.noting_laws.ensures (scope_of w (design_of c.args.design.now) c.args.vars.now c.args.packet) (widths_of (map param_of c.args.params.now)) c.new-found.result c.new-found.ensures.typed c.new-found.ensures.wrong;
  noted = λ w. c.noting_laws.ensures.nothing _ c.args.noted.now (λ f. refl);
}

pub note_args-loop-index-preserved : goal.note_args-loop-index-preserved
note_args-loop-index-preserved t c =
    let within : c.loop-index.index < length c.args.args.now = search rules in
    let more = taken c.args.args.now c.loop-index.index c.index-args-index.result within c.index-args-index.is in
    let xs = map expr_of (take c.loop-index.index c.args.args.now) in
    record {
      args = λ w.
          let s = scope_of w (design_of c.args.design.now) c.args.vars.now c.args.packet in
          subst (λ ys. AreArgs c.add.new.self s (widths_of (map param_of c.args.params.now)) (exprs_of ys)) (sym more)
          (one_value c.noting_laws.ensures xs (expr_of c.index-args-index.result) c.loop-index.index (c.note_expr-arg.ensures.typed w) (taken_count c.args.args.now c.loop-index.index within)
          (c.loop-index.invariant.args w) c.add.ensures.typed (c.add.ensures.wrong s (expr_of c.index-args-index.result) (c.note_expr-arg.ensures.typed w)));
      noted = λ w.
          let s = scope_of w (design_of c.args.design.now) c.args.vars.now c.args.packet in
          subst (λ ys. Notes (in_exprs s ys) c.args.noted.now c.note_expr-arg.new.noted) (sym more)
          (noted_step c.noting_laws.ensures s xs (expr_of c.index-args-index.result) c.args.noted.now c.loop-index.noted c.note_expr-arg.new.noted (c.loop-index.invariant.noted w) (c.note_expr-arg.ensures.noted w));
    }

pub note_args-returns-clause-args : goal.note_args-returns-clause-args
note_args-returns-clause-args t c = λ w.
    let all : take c.loop-index.index c.args.args.now ≡ c.args.args.now = take_all c.loop-index.index c.args.args.now (search rules) in
    subst (λ xs. AreArgs c.loop-index.found (scope_of w (design_of c.args.design.now) c.args.vars.now c.args.packet) (widths_of (map param_of c.args.params.now)) (exprs_of (map expr_of xs))) all
    (c.loop-index.invariant.args w)

pub note_args-returns-clause-noted : goal.note_args-returns-clause-noted
note_args-returns-clause-noted t c = λ w.
    let all : take c.loop-index.index c.args.args.now ≡ c.args.args.now = take_all c.loop-index.index c.args.args.now (search rules) in
    subst (λ xs. Notes (in_exprs (scope_of w (design_of c.args.design.now) c.args.vars.now c.args.packet) (map expr_of xs)) c.args.noted.now c.loop-index.noted) all
    (c.loop-index.invariant.noted w)
