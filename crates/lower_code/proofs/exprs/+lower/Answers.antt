use Rattle.std.proofs.Common.{◌≡◌, ℕ, ◌+◌, ◌≤◌, ◌<◌, List, [], ◌∷◌, ◌++◌, false, map, take, drop, Option, option_map, IfOk, rules, sym, ap, subst, ◌∙◌, arith}
use Rattle.std.proofs.lemmas.List.{drop_all, map-append}
use Rattle.cocoon_num.specs.Tree.{binary, call, pick}
use Rattle.cocoon_syntax.specs.declared.expr.ExprKind as kinds
use Rattle.cocoon_syntax.specs.declared.expr.Expr.{Expr as Node}
use Rattle.cocoon_syntax.specs.TreeOf as tree
use Rattle.cocoon_syntax.specs.TreeOf.{design_of, exprs_of, function_of, name_of}
use Rattle.cocoon_types.specs.Design.{functions}
use Rattle.p4_ir.specs.Program.{expr_of}
use Rattle.p4_ir.specs.declared.program.P4Expr.{P4Expr as P4}
use Rattle.lowering.specs.Lower as lower
use Rattle.lowering.specs.Lower.{Counts, by_table, p_operation}
use Rattle.lower_code.specs.Growth.{all_reached, counts_of, reached, so_far, with_expr, with_exprs}
use Rattle.lower_code.specs.Scopes.{body_lowered, callees_in, design_in, function_in, functions_before}
use Rattle.lower_code.specs.Variables.{variables_of}
use Rattle.lower_code.proofs.Forms.{truth_form}
use Rattle.lower_code.proofs.Found.{calls_at, none_called}
use Rattle.lower_code.proofs.Sizes.{all_nodes, body_nodes, nodes, one_of, option_nodes, weight, weight_with}
use Rattle.lower_code.proofs.Steps.{both_step, call_step, closed_step, exprs_end, exprs_step, if_ok, mapped_from, prepended, three_step, truth_step}
use Rattle.lower_code.proofs.exprs.+lower.Goals as goal

pub lower_exprs-lower_expr-requires : goal.lower_exprs-lower_expr-requires
lower_exprs-lower_expr-requires t c =
    let small : nodes (tree.expr_of c.expr-item.result) ≤ all_nodes (exprs_of (map tree.expr_of c.args.exprs.now)) =
    one_of tree.expr_of c.args.exprs.now c.loop-expr.expr-index c.expr-item.result c.loop-expr-test.true c.expr-item.is in
    search rules

pub lower_function-lower_body-requires : goal.lower_function-lower_body-requires
lower_function-lower_body-requires t c =
    let s = c.args.scope.now in
    let fs = functions (design_of s.checked.now) in
    let r = function_of c.function-function.result.now in
    let more : weight (take c.args.number fs) + body_nodes r ≤ weight (take s.before fs) = weight_with fs c.args.number s.before r c.function-function.ensures c.requires.within in
    let size : body_nodes r ≡ nodes (tree.expr_of c.in-Some.body) = ap (λ (b : Option Node). option_nodes (option_map tree.expr_of b)) c.in-Some.is in
    let small : weight (take c.args.number fs) + nodes (tree.expr_of c.in-Some.body) ≤ weight (take s.before fs) = omega arith in
    search rules

pub lower_expr-returns-in_ok-args-in-Call : goal.lower_expr-returns-in_ok-args-in-Call
lower_expr-returns-in_ok-args-in-Call t c =
    let s = c.args.scope.now in
    let d = design_in s in
    let vars = variables_of c.args.variables.now in
    let before = so_far d c.args.to.now c.args.code.now.items in
    let args = lower.lower_exprs (callees_in s) vars before.next (exprs_of (map tree.expr_of c.in-Call.args.items)) in
    let f = (callees_in s).call c.in-Call.function.text in
    let is : tree.expr_of c.args.expr.now ≡ call c.args.expr.now.at (name_of c.in-Call.function) (exprs_of (map tree.expr_of c.in-Call.args.items)) = search (rules, kinds.the_lemmas, c.in-Call.is) in
    let known : all_reached d c.lower_exprs.new.to c.lower_exprs.new.code.items c.in_ok-args-in-Call.args.items ≡ with_exprs before args =
    c.in_ok-args-in-Call.ensures ∙ ap (λ xs. with_exprs before (lower.lower_exprs (callees_in s) vars before.next (exprs_of (map tree.expr_of xs)))) c.deref.ensures.value in
    if_ok c.lower_call.result c.lower_call.ensures
    (λ e h.
    call_step before (so_far d c.lower_exprs.new.to c.lower_exprs.new.code.items) (so_far d c.lower_call.new.to c.lower_call.new.code.items)
    (map expr_of c.in_ok-args-in-Call.args.items) (expr_of e) args f known
    (h ∙ ap (λ (x : List ℕ). with_expr (so_far d c.lower_exprs.new.to c.lower_exprs.new.code.items) ((callees_in s).call x (map expr_of c.in_ok-args-in-Call.args.items) (counts_of c.lower_exprs.new.to.counts))) c.bytes-in-Call.ensures)
    ∙ ap (λ x. with_expr before (lower.lower_expr (callees_in s) vars before.next x)) (sym is))

pub lower_expr-returns-in_ok-b-in-Binary : goal.lower_expr-returns-in_ok-b-in-Binary
lower_expr-returns-in_ok-b-in-Binary t c =
    let s = c.args.scope.now in
    let d = design_in s in
    let vars = variables_of c.args.variables.now in
    let before = so_far d c.args.to.now c.args.code.now.items in
    let between = so_far d c.lower_expr-in-Binary.new.to c.lower_expr-in-Binary.new.code.items in
    let after = so_far d c.lower_expr-in-Binary-2.new.to c.lower_expr-in-Binary-2.new.code.items in
    let op = tree.binary_of c.in-Binary.op in
    let a = tree.expr_of c.deref-in-Binary.result.now in
    let b = tree.expr_of c.deref-in-Binary-2.result.now in
    let is : tree.expr_of c.args.expr.now ≡ binary c.args.expr.now.at op a b = search (rules, kinds.the_lemmas, c.in-Binary.is) in
    if_ok c.binary.result c.binary.ensures
    (λ e h.
    both_step (p_operation op) before between after (expr_of c.in_ok-a-in-Binary.a) (expr_of c.in_ok-b-in-Binary.b) (expr_of e)
    (lower.lower_expr (callees_in s) vars before.next a) (λ (k : Counts). lower.lower_expr (callees_in s) vars k b)
    c.in_ok-a-in-Binary.ensures c.in_ok-b-in-Binary.ensures h
    ∙ ap (λ x. with_expr before (lower.lower_expr (callees_in s) vars before.next x)) (sym is))

pub lower_expr-returns-in_ok-b-in-Pick : goal.lower_expr-returns-in_ok-b-in-Pick
lower_expr-returns-in_ok-b-in-Pick t c =
    let s = c.args.scope.now in
    let d = design_in s in
    let vars = variables_of c.args.variables.now in
    let before = so_far d c.args.to.now c.args.code.now.items in
    let one = so_far d c.lower_expr-in-Pick.new.to c.lower_expr-in-Pick.new.code.items in
    let two = so_far d c.lower_expr-in-Pick-2.new.to c.lower_expr-in-Pick-2.new.code.items in
    let after = so_far d c.lower_expr-in-Pick-3.new.to c.lower_expr-in-Pick-3.new.code.items in
    let x = tree.expr_of c.deref-in-Pick.result.now in
    let a = tree.expr_of c.deref-in-Pick-2.result.now in
    let b = tree.expr_of c.deref-in-Pick-3.result.now in
    let is : tree.expr_of c.args.expr.now ≡ pick c.args.expr.now.at x a b = search (rules, kinds.the_lemmas, c.in-Pick.is) in
    if_ok c.pick.result c.pick.ensures
    (λ e h.
    three_step before one two after (expr_of c.in_ok-condition-in-Pick.condition) (expr_of c.in_ok-a-in-Pick.a) (expr_of c.in_ok-b-in-Pick.b) (expr_of e)
    (lower.lower_expr (callees_in s) vars before.next x) (λ (k : Counts). lower.lower_expr (callees_in s) vars k a) (λ (k : Counts). lower.lower_expr (callees_in s) vars k b)
    c.in_ok-condition-in-Pick.ensures c.in_ok-a-in-Pick.ensures c.in_ok-b-in-Pick.ensures h
    ∙ ap (λ z. with_expr before (lower.lower_expr (callees_in s) vars before.next z)) (sym is))

pub lower_call-lower_function-requires : goal.lower_call-lower_function-requires
lower_call-lower_function-requires t c =
    let d = design_in c.args.scope.now in
    let f = calls_at d c.args.scope.now.before c.args.name.now c.in-Some.number c.requires (sym c.in-Some.ensures) in
    let within : c.in-Some.number < c.args.scope.now.before = f.within in
    search rules

pub lower_call-returns-in-Some : goal.lower_call-returns-in-Some
lower_call-returns-in-Some t c =
    let d = design_in c.args.scope.now in
    let before = so_far d c.args.to.now c.args.code.now.items in
    let es = map expr_of c.args.args.items in
    let f = calls_at d c.args.scope.now.before c.args.name.now c.in-Some.number c.requires (sym c.in-Some.ensures) in
    subst (λ r. IfOk c.lower_function.result (λ e. reached d c.lower_function.new.to c.lower_function.new.code.items e ≡ with_expr before r))
    (sym (f.call d.headers es before.next)) (c.lower_function.ensures f.function f.is)

pub lower_call-returns-in-None : goal.lower_call-returns-in-None
lower_call-returns-in-None t c =
    let s = c.args.scope.now in
    let d = design_in s in
    let before = so_far d c.args.to.now c.args.code.now.items in
    let es = map expr_of c.args.args.items in
    truth_step before (expr_of (P4.Truth false)) (truth_form false)
    ∙ ap (with_expr before) (sym (none_called (functions_before d s.before) d.headers c.args.name.now es before.next (sym c.in-None.ensures)).0)

pub lower_function-returns-in_ok-value-in-Some : goal.lower_function-returns-in_ok-value-in-Some
lower_function-returns-in_ok-value-in-Some t c = λ g h.
    let s = c.args.scope.now in
    let d = design_in s in
    let before = so_far d c.args.to.now c.args.code.now.items in
    let bound = so_far d c.bind_args.new.to c.bind_args.new.code.items in
    let inside = so_far d c.lower_body.new.to c.lower_body.new.code.items in
    let es = map expr_of c.args.args.items in
    let r = function_of c.function-function.result.now in
    let same : r ≡ g = cc in
    let body = tree.expr_of c.in-Some.body in
    let vars = lower.variables_from before.next.field r.params in
    let inner : reached d c.lower_body.new.to c.lower_body.new.code.items c.in_ok-value-in-Some.value ≡ with_expr bound (body_lowered d c.args.number vars bound.next body) =
    c.in_ok-value-in-Some.ensures ∙ ap (λ vs. with_expr bound (body_lowered d c.args.number vs bound.next body)) (ap variables_of c.deref.ensures.value ∙ c.in_ok-variables-in-Some.ensures.variables) in
    if_ok c.keep_result.result (c.keep_result.ensures d)
    (λ e k.
    closed_step before bound inside (so_far d c.keep_result.new.to c.keep_result.new.code.items) r es (expr_of c.in_ok-value-in-Some.value) (expr_of e)
    (λ (n : Counts). body_lowered d c.args.number vars n body) (c.in_ok-variables-in-Some.ensures.state d) inner k
    ∙ ap (λ (b : Option Node). with_expr before (function_in d c.args.number (record { name = r.name; params = r.params; result = r.result; body = option_map tree.expr_of b }) es before.next)) (sym c.in-Some.is)
    ∙ ap (λ z. with_expr before (function_in d c.args.number z es before.next)) same)

pub lower_function-returns-in-None : goal.lower_function-returns-in-None
lower_function-returns-in-None t c = λ g h.
    let s = c.args.scope.now in
    let d = design_in s in
    let before = so_far d c.args.to.now c.args.code.now.items in
    let es = map expr_of c.args.args.items in
    let r = function_of c.function-function.result.now in
    let same : r ≡ g = cc in
    if_ok c.by_table.result (c.by_table.ensures d c.function-function.ensures)
    (λ e k.
    k ∙ ap (λ (b : Option Node). with_expr before (function_in d c.args.number (record { name = r.name; params = r.params; result = r.result; body = option_map tree.expr_of b }) es before.next)) (sym c.in-None.is)
    ∙ ap (λ z. with_expr before (function_in d c.args.number z es before.next)) same)

pub lower_exprs-returns : goal.lower_exprs-returns
lower_exprs-returns t c =
    let s = c.args.scope.now in
    let now = so_far (design_in s) c.loop-expr.to c.loop-expr.code.items in
    sym (c.loop-expr.invariant
    ∙ ap (λ xs. prepended (map expr_of c.loop-expr.lowered.items) (with_exprs now (lower.lower_exprs (callees_in s) (variables_of c.args.variables.now) now.next (exprs_of (map tree.expr_of xs)))))
    (drop_all c.loop-expr.expr-index c.args.exprs.now c.loop-expr-test.false)
    ∙ exprs_end now (map expr_of c.loop-expr.lowered.items))

pub lower_exprs-loop-expr-preserved : goal.lower_exprs-loop-expr-preserved
lower_exprs-loop-expr-preserved t c =
    let s = c.args.scope.now in
    let d = design_in s in
    let vars = variables_of c.args.variables.now in
    let i = c.loop-expr.expr-index in
    let x = c.expr-item.result in
    let before = so_far d c.loop-expr.to c.loop-expr.code.items in
    let after = so_far d c.lower_expr.new.to c.lower_expr.new.code.items in
    let done = map expr_of c.loop-expr.lowered.items in
    let rest = exprs_of (map tree.expr_of (drop (i + 1) c.args.exprs.now)) in
    let pushed : map expr_of c.push.new.self.items ≡ done ++ expr_of c.in_ok-lower_expr.field-0 ∷ [] = ap (map expr_of) c.in_ok-push.ensures.items ∙ map-append expr_of c.loop-expr.lowered.items (c.in_ok-lower_expr.field-0 ∷ []) in
    c.loop-expr.invariant
    ∙ ap (λ xs. prepended done (with_exprs before (lower.lower_exprs (callees_in s) vars before.next (exprs_of xs)))) (mapped_from tree.expr_of c.args.exprs.now i x c.loop-expr-test.true c.expr-item.is)
    ∙ exprs_step before after (expr_of c.in_ok-lower_expr.field-0) done (lower.lower_expr (callees_in s) vars before.next (tree.expr_of x))
    (λ (k : Counts). lower.lower_exprs (callees_in s) vars k rest) c.in_ok-lower_expr.ensures
    ∙ ap (λ es. prepended es (with_exprs after (lower.lower_exprs (callees_in s) vars after.next rest))) (sym pushed)
