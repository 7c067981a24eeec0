use Rattle.std.proofs.Common.{◌≡◌, ◌+◌, ◌≤◌, map, drop, rules, sym, ap, subst, arith}
use Rattle.std.proofs.lemmas.List.{drop_all}
use Rattle.cocoon_num.specs.Tree.{binary, call, pick, slice, unary}
use Rattle.cocoon_syntax.specs.declared.expr.ExprKind as kinds
use Rattle.cocoon_syntax.specs.TreeOf.{binary_of, expr_of, exprs_of, name_of, unary_of}
use Rattle.role_values.proofs.Sizes as size
use Rattle.expr_terms.specs.Knowing.{calls_known}
use Rattle.expr_terms.specs.Sizes.{IsCount, all_nodes, nodes}
use Rattle.expr_terms.proofs.Lists.{from}
use Rattle.expr_terms.proofs.sizes.+count.Goals as goal

pub count-returns-in-Call : goal.count-returns-in-Call
count-returns-in-Call t c =
    let calls = calls_known c.args.counting.now in
    let es = exprs_of (map expr_of c.in-Call.args.items) in
    let is : expr_of c.args.expr.now ≡ call c.args.expr.now.at (name_of c.in-Call.function) es = search (rules, kinds.the_lemmas, c.in-Call.is) in
    let called = subst (λ f. IsCount (calls f) c.call_count-called.result) c.bytes.ensures c.call_count-called.ensures in
    let args = subst (λ xs. IsCount (all_nodes calls (exprs_of (map expr_of xs))) c.count_all-args.result) c.deref.ensures.value c.count_all-args.ensures in
    subst (λ e. IsCount (nodes calls e) c.one_more.result) (sym is)
    (c.one_more.ensures (calls c.in-Call.function.text + all_nodes calls es) (c.plus.ensures (calls c.in-Call.function.text) (all_nodes calls es) called args))

pub count-returns-in-Unary : goal.count-returns-in-Unary
count-returns-in-Unary t c =
    let calls = calls_known c.args.counting.now in
    let a = expr_of c.deref-in-Unary.result.now in
    let is : expr_of c.args.expr.now ≡ unary c.args.expr.now.at (unary_of c.in-Unary.field-0) a = search (rules, kinds.the_lemmas, c.in-Unary.is) in
    subst (λ e. IsCount (nodes calls e) c.one_more-in-Unary.result) (sym is) (c.one_more-in-Unary.ensures (nodes calls a) c.count.ensures)

pub count-returns-in-Binary : goal.count-returns-in-Binary
count-returns-in-Binary t c =
    let calls = calls_known c.args.counting.now in
    let a = expr_of c.deref-in-Binary.result.now in
    let b = expr_of c.deref-in-Binary-2.result.now in
    let is : expr_of c.args.expr.now ≡ binary c.args.expr.now.at (binary_of c.in-Binary.field-0) a b = search (rules, kinds.the_lemmas, c.in-Binary.is) in
    subst (λ e. IsCount (nodes calls e) c.one_more-in-Binary.result) (sym is)
    (c.one_more-in-Binary.ensures (nodes calls a + nodes calls b) (c.plus-in-Binary.ensures (nodes calls a) (nodes calls b) c.count-a.ensures c.count-b.ensures))

pub count-returns-in-Slice : goal.count-returns-in-Slice
count-returns-in-Slice t c =
    let calls = calls_known c.args.counting.now in
    let a = expr_of c.deref-in-Slice.result.now in
    let is : expr_of c.args.expr.now ≡ slice c.args.expr.now.at a c.in-Slice.field-1 c.in-Slice.field-2 = search (rules, kinds.the_lemmas, c.in-Slice.is) in
    subst (λ e. IsCount (nodes calls e) c.one_more-in-Slice.result) (sym is) (c.one_more-in-Slice.ensures (nodes calls a) c.count-in-Slice.ensures)

pub count-returns-in-Pick : goal.count-returns-in-Pick
count-returns-in-Pick t c =
    let calls = calls_known c.args.counting.now in
    let x = expr_of c.deref-in-Pick.result.now in
    let a = expr_of c.deref-in-Pick-2.result.now in
    let b = expr_of c.deref-in-Pick-3.result.now in
    let is : expr_of c.args.expr.now ≡ pick c.args.expr.now.at x a b = search (rules, kinds.the_lemmas, c.in-Pick.is) in
    subst (λ e. IsCount (nodes calls e) c.one_more-in-Pick.result) (sym is)
    (c.one_more-in-Pick.ensures (nodes calls x + (nodes calls a + nodes calls b))
    (c.plus-in-Pick-2.ensures (nodes calls x) (nodes calls a + nodes calls b) c.count-condition.ensures
    (c.plus-in-Pick.ensures (nodes calls a) (nodes calls b) c.count-a-in-Pick.ensures c.count-b-in-Pick.ensures)))

pub count_all-count-requires : goal.count_all-count-requires
count_all-count-requires t c =
    let small : size.nodes (expr_of c.expr-item.result) ≤ size.all_nodes (exprs_of (map expr_of c.args.exprs.now)) =
    size.one_of expr_of c.args.exprs.now c.loop-expr.expr-index c.expr-item.result c.loop-expr-test.true c.expr-item.is in
    search rules

pub count_all-loop-expr-preserved : goal.count_all-loop-expr-preserved
count_all-loop-expr-preserved t c =
    let calls = calls_known c.args.counting.now in
    let x = c.expr-item.result in
    let i = c.loop-expr.expr-index in
    let done = c.loop-expr.invariant.0 in
    let n = nodes calls (expr_of x) in
    let rest = all_nodes calls (exprs_of (map expr_of (drop (i + 1) c.args.exprs.now))) in
    let next : all_nodes calls (exprs_of (map expr_of (drop i c.args.exprs.now))) ≡ n + rest = ap (λ xs. all_nodes calls (exprs_of (map expr_of xs))) (from c.args.exprs.now i x c.loop-expr-test.true c.expr-item.is) in
    (done + n, c.plus-sum.ensures done n c.loop-expr.invariant.1 c.count.ensures, (let e = c.loop-expr.invariant.2 in omega (arith, e, next)))

pub count_all-returns : goal.count_all-returns
count_all-returns t c =
    let calls = calls_known c.args.counting.now in
    let none : all_nodes calls (exprs_of (map expr_of (drop c.loop-expr.expr-index c.args.exprs.now))) ≡ 0 =
    ap (λ xs. all_nodes calls (exprs_of (map expr_of xs))) (drop_all c.loop-expr.expr-index c.args.exprs.now c.loop-expr-test.false) in
    let e = c.loop-expr.invariant.2 in
    let same : c.loop-expr.invariant.0 ≡ all_nodes calls (exprs_of (map expr_of c.args.exprs.now)) = omega (arith, e, none) in
    subst (λ n. IsCount n c.loop-expr.sum) same c.loop-expr.invariant.1
