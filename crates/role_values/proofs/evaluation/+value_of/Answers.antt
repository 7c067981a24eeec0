use Rattle.std.proofs.Common.{◌≡◌, ℕ, ◌+◌, ◌<◌, ◌≤◌, List, ◌∷◌, map, take, drop, length, Option, Some, None, option_map, option_and_then, IfOk, Vec, Global, rules, sym, ap, subst, ◌∙◌, arith}
use Rattle.cocoon_num.specs.Tree.{binary, call, pick}
use Rattle.cocoon_num.specs.Values.{apply_binary, apply_pick, as_number, with_all, with_both}
use Rattle.cocoon_syntax.specs.declared.expr.ExprKind as kinds
use Rattle.cocoon_syntax.specs.declared.expr.Expr.{Expr as Node}
use Rattle.cocoon_syntax.specs.TreeOf.{binary_of, design_of, expr_of, exprs_of, function_of, name_of}
use Rattle.cocoon_types.specs.Design.{functions}
use Rattle.role_values.specs.ByTables.{table_at}
use Rattle.role_values.specs.Bound.{env_of}
use Rattle.role_values.specs.Flat.{packet_of}
use Rattle.role_values.specs.Kept.{kept_at}
use Rattle.role_values.specs.Meant.{meant}
use Rattle.role_values.specs.Scenes.{all_values, applied, context_of, headers_of, value_in}
use Rattle.role_values.proofs.FunctionSteps.{shape_at, there}
use Rattle.role_values.proofs.Numbers.{goes_on, numbers_step, stops}
use Rattle.role_values.proofs.Sizes.{all_nodes, body_nodes, nodes, one_of, option_nodes, weight, weight_with}
use Rattle.role_values.proofs.evaluation.+value_of.Goals as goal

pub value_of-returns-in-Some-clause-value : goal.value_of-returns-in-Some-clause-value
value_of-returns-in-Some-clause-value t c =
    let s = c.args.scene.now in
    let state = c.args.state.now in
    let known : Some c.in-Some.args.items ≡ all_values s state (map expr_of c.in-Call.args.items) =
    ap (option_map (λ (v : Vec ℕ Global). v.items)) (sym c.in-Some.is) ∙ c.in_ok-args-in-Call.ensures.numbers ∙ ap (λ xs. all_values s state (map expr_of xs)) c.deref-in-Call.ensures.value in
    let is : expr_of c.args.expr.now ≡ call c.args.expr.now.at (name_of c.in-Call.function) (exprs_of (map expr_of c.in-Call.args.items)) = search (rules, kinds.the_lemmas, c.in-Call.is) in
    let same : applied s c.bytes-in-Some.result.now c.deref-in-Some.result.now ≡ value_in s state (expr_of c.args.expr.now) =
    (λ i. applied s (c.bytes-in-Some.ensures i) (c.deref-in-Some.ensures.value i))
    ∙ ap (λ (r : Option (List ℕ)). option_and_then (applied s c.in-Call.function.text) r) known
    ∙ ap (value_in s state) (sym is) in
    subst (λ z. IfOk c.apply.result (λ v. option_map meant v ≡ z)) same c.apply.ensures.value

pub value_of-returns-in_ok-b-in-Binary-clause-value : goal.value_of-returns-in_ok-b-in-Binary-clause-value
value_of-returns-in_ok-b-in-Binary-clause-value t c =
    let s = c.args.scene.now in
    let state = c.args.state.now in
    let op = binary_of c.in-Binary.op in
    let is : expr_of c.args.expr.now ≡ binary c.args.expr.now.at (binary_of c.in-Binary.op) (expr_of c.deref-in-Binary.result.now) (expr_of c.deref-in-Binary-2.result.now) = search (rules, kinds.the_lemmas, c.in-Binary.is) in
    c.binary_of_both.ensures ∙ (λ i. with_both (apply_binary op) (c.in_ok-a-in-Binary.ensures.value i) (c.in_ok-b-in-Binary.ensures.value i)) ∙ ap (value_in s state) (sym is)

pub value_of-returns-in_ok-b-in-Pick-clause-value : goal.value_of-returns-in_ok-b-in-Pick-clause-value
value_of-returns-in_ok-b-in-Pick-clause-value t c =
    let s = c.args.scene.now in
    let state = c.args.state.now in
    let is : expr_of c.args.expr.now ≡ pick c.args.expr.now.at (expr_of c.deref-in-Pick.result.now) (expr_of c.deref-in-Pick-2.result.now) (expr_of c.deref-in-Pick-3.result.now) = search (rules, kinds.the_lemmas, c.in-Pick.is) in
    c.pick_of_all.ensures
    ∙ (λ i. with_all apply_pick (c.in_ok-condition-in-Pick.ensures.value i) (c.in_ok-a-in-Pick.ensures.value i) (c.in_ok-b-in-Pick.ensures.value i))
    ∙ ap (value_in s state) (sym is)

pub numbers_of-value_of-requires : goal.numbers_of-value_of-requires
numbers_of-value_of-requires t c =
    let small : nodes (expr_of c.expr-item.result) ≤ all_nodes (exprs_of (map expr_of c.args.exprs.now)) =
    one_of expr_of c.args.exprs.now c.loop-expr.expr-index c.expr-item.result c.loop-expr-test.true c.expr-item.is in
    search rules

pub numbers_of-returns-in-None-clause-numbers : goal.numbers_of-returns-in-None-clause-numbers
numbers_of-returns-in-None-clause-numbers t c =
    let s = c.args.scene.now in
    let state = c.args.state.now in
    let x = c.expr-item.result in
    let i = c.loop-expr.expr-index in
    let none : option_and_then as_number (value_in s state (expr_of x)) ≡ None = ap (option_and_then as_number) (sym c.in_ok-value_of.ensures.value) ∙ sym c.number_of_value.ensures ∙ c.in-None.is in
    stops (all_values s state (map expr_of c.args.exprs.now)) (all_values s state (map expr_of (drop i c.args.exprs.now))) (all_values s state (map expr_of (drop (i + 1) c.args.exprs.now)))
    (option_and_then as_number (value_in s state (expr_of x))) c.loop-expr.found.items c.loop-expr.invariant.numbers
    (numbers_step expr_of c.args.exprs.now i x (context_of s) (env_of state.variables.items) (packet_of (headers_of s) state.fields.items) c.loop-expr-test.true c.expr-item.is) none

pub numbers_of-loop-expr-preserved : goal.numbers_of-loop-expr-preserved
numbers_of-loop-expr-preserved t c =
    let s = c.args.scene.now in
    let state = c.args.state.now in
    let x = c.expr-item.result in
    let i = c.loop-expr.expr-index in
    let some : option_and_then as_number (value_in s state (expr_of x)) ≡ Some c.in-Some.number = ap (option_and_then as_number) (sym c.in_ok-value_of.ensures.value) ∙ sym c.number_of_value.ensures ∙ c.in-Some.is in
    record {
      numbers = goes_on (all_values s state (map expr_of c.args.exprs.now)) (all_values s state (map expr_of (drop i c.args.exprs.now))) (all_values s state (map expr_of (drop (i + 1) c.args.exprs.now)))
          (option_and_then as_number (value_in s state (expr_of x))) c.in-Some.number c.loop-expr.found.items c.push.new.self.items c.loop-expr.invariant.numbers
          (numbers_step expr_of c.args.exprs.now i x (context_of s) (env_of state.variables.items) (packet_of (headers_of s) state.fields.items) c.loop-expr-test.true c.expr-item.is) some
          c.in_ok-push-in-Some.ensures.items;
      keeps = c.in_ok-value_of.ensures.keeps;
    }

pub apply-returns-in-Some-clause-value : goal.apply-returns-in-Some-clause-value
apply-returns-in-Some-clause-value t c =
    let s = c.args.scene.now in
    let within : c.in-Some.number < s.before = c.in-Some.ensures.within in
    let before : s.before ≤ length (functions (design_of s.checked.now)) = c.requires.functions.before in
    let g = there (functions (design_of s.checked.now)) c.in-Some.number (omega arith) in
    subst (λ z. IfOk c.call.result (λ v. option_map meant v ≡ z)) (sym (c.in-Some.ensures.gives g.0 c.args.args.now g.1)) (c.call.ensures.value g.0 g.1)

pub call-call_once-requires : goal.call-call_once-requires
call-call_once-requires t c =
    let s = c.args.scene.now in
    let fs = functions (design_of s.checked.now) in
    let r = function_of c.function-function.result.now in
    let more : weight (take c.args.number fs) + body_nodes r ≤ weight (take s.before fs) = weight_with fs c.args.number s.before r c.function-function.ensures c.requires.within in
    let size : body_nodes r ≡ nodes (expr_of c.in-Some.body) = ap (λ (b : Option Node). option_nodes (option_map expr_of b)) c.in-Some.is in
    let small : weight (take c.args.number fs) + nodes (expr_of c.in-Some.body) ≤ weight (take s.before fs) = omega arith in
    search rules

pub call_once-returns-in-Some-clause-value : goal.call_once-returns-in-Some-clause-value
call_once-returns-in-Some-clause-value t c =
    let kept : kept_at c.args.calls.now (c.args.number ∷ c.args.args.now) ≡ Some c.in-Some.value = search rules in
    c.requires.keeps.are (c.args.number ∷ c.args.args.now) c.in-Some.value kept (function_of c.args.function.now) c.requires.is

pub call-table_value-requires-clause-shape : goal.call-table_value-requires-clause-shape
call-table_value-requires-clause-shape t c =
    let is : table_at c.args.scene.now.defs.now c.args.number ≡ Some c.in-Some-table_at.table.now = sym c.in-Some-table_at.ensures in
    shape_at c.args.scene.now.defs.now c.args.number c.in-Some-table_at.table.now c.requires.functions.shapes is

pub call-table_value-requires-clause-is_there : goal.call-table_value-requires-clause-is_there
call-table_value-requires-clause-is_there t c = sym c.in-Some-table_at.ensures
