use Rattle.std.proofs.Common.{◌≡◌, suc, ◌+◌, ◌<◌, IfOk, ap, rules, subst, sym, arith}
use Rattle.std.proofs.lemmas.Result.{IfOk-weaker}
use Rattle.cocoon_num.specs.Sorts.{pick_sort}
use Rattle.p4_ir.specs.P4Kinds.{p4_sort}
use Rattle.p4_ir.specs.P4Tree.{p_binary, p_pick, p_slice, p_unary}
use Rattle.p4_ir.specs.Program.{binary_of, expr_of, unary_of}
use Rattle.p4_ir.specs.declared.program.P4Expr as exprs
use Rattle.p4_run.specs.Operating.{IsSorted}
use Rattle.p4_run.specs.Resolving.{Means, program_at}
use Rattle.p4_run.specs.Controls.{within_in}
use Rattle.p4_run.proofs.ResolvingFacts.{binary_sorted, means_one, means_slice, means_three, means_two, no_implies, three_sorted}
use Rattle.p4_run.proofs.ExprSizes.{expr_size}
use Rattle.p4_run.proofs.expr_resolving.+resolve.Goals as goal

pub resolved-requires-in-Binary : goal.resolved-requires-in-Binary
resolved-requires-in-Binary t c =
    let p = program_at c.args.names.now in
    let b = c.args.names.now.in_ingress in
    let w = within_in p b in
    let op = binary_of c.in-Binary.op in
    let e = expr_of c.in-Binary.a.value in
    let f = expr_of c.in-Binary.b.value in
    let is : expr_of c.args.expr.now ≡ p_binary op e f = search (rules, exprs.the_lemmas, c.in-Binary.is) in
    let own = (binary_sorted op (p4_sort w e) (p4_sort w f) (subst (λ x. IsSorted (p4_sort w x)) is c.requires.sort)).0 in
    let sort : IsSorted (p4_sort w e) = own in
    let size : expr_size (expr_of c.args.expr.now) ≡ suc (expr_size e + expr_size f) = ap expr_size is in
    let small : expr_size e < expr_size (expr_of c.args.expr.now) = omega (arith, size) in
    search rules

pub resolved-requires-in-Binary-2 : goal.resolved-requires-in-Binary-2
resolved-requires-in-Binary-2 t c =
    let p = program_at c.args.names.now in
    let b = c.args.names.now.in_ingress in
    let w = within_in p b in
    let op = binary_of c.in-Binary.op in
    let e = expr_of c.in-Binary.a.value in
    let f = expr_of c.in-Binary.b.value in
    let is : expr_of c.args.expr.now ≡ p_binary op e f = search (rules, exprs.the_lemmas, c.in-Binary.is) in
    let own = (binary_sorted op (p4_sort w e) (p4_sort w f) (subst (λ x. IsSorted (p4_sort w x)) is c.requires.sort)).1 in
    let sort : IsSorted (p4_sort w f) = own in
    let size : expr_size (expr_of c.args.expr.now) ≡ suc (expr_size e + expr_size f) = ap expr_size is in
    let small : expr_size f < expr_size (expr_of c.args.expr.now) = omega (arith, size) in
    search rules

pub resolved-requires-in-Pick : goal.resolved-requires-in-Pick
resolved-requires-in-Pick t c =
    let p = program_at c.args.names.now in
    let b = c.args.names.now.in_ingress in
    let w = within_in p b in
    let d = expr_of c.in-Pick.condition.value in
    let e = expr_of c.in-Pick.a.value in
    let f = expr_of c.in-Pick.b.value in
    let is : expr_of c.args.expr.now ≡ p_pick d e f = search (rules, exprs.the_lemmas, c.in-Pick.is) in
    let all = three_sorted pick_sort (p4_sort w d) (p4_sort w e) (p4_sort w f) (subst (λ x. IsSorted (p4_sort w x)) is c.requires.sort) in
    let sort : IsSorted (p4_sort w d) = all.0 in
    let size : expr_size (expr_of c.args.expr.now) ≡ suc (expr_size d + expr_size e + expr_size f) = ap expr_size is in
    let small : expr_size d < expr_size (expr_of c.args.expr.now) = omega (arith, size) in
    search rules

pub resolved-requires-in-Pick-2 : goal.resolved-requires-in-Pick-2
resolved-requires-in-Pick-2 t c =
    let p = program_at c.args.names.now in
    let b = c.args.names.now.in_ingress in
    let w = within_in p b in
    let d = expr_of c.in-Pick.condition.value in
    let e = expr_of c.in-Pick.a.value in
    let f = expr_of c.in-Pick.b.value in
    let is : expr_of c.args.expr.now ≡ p_pick d e f = search (rules, exprs.the_lemmas, c.in-Pick.is) in
    let all = three_sorted pick_sort (p4_sort w d) (p4_sort w e) (p4_sort w f) (subst (λ x. IsSorted (p4_sort w x)) is c.requires.sort) in
    let sort : IsSorted (p4_sort w e) = all.1 in
    let size : expr_size (expr_of c.args.expr.now) ≡ suc (expr_size d + expr_size e + expr_size f) = ap expr_size is in
    let small : expr_size e < expr_size (expr_of c.args.expr.now) = omega (arith, size) in
    search rules

pub resolved-requires-in-Pick-3 : goal.resolved-requires-in-Pick-3
resolved-requires-in-Pick-3 t c =
    let p = program_at c.args.names.now in
    let b = c.args.names.now.in_ingress in
    let w = within_in p b in
    let d = expr_of c.in-Pick.condition.value in
    let e = expr_of c.in-Pick.a.value in
    let f = expr_of c.in-Pick.b.value in
    let is : expr_of c.args.expr.now ≡ p_pick d e f = search (rules, exprs.the_lemmas, c.in-Pick.is) in
    let all = three_sorted pick_sort (p4_sort w d) (p4_sort w e) (p4_sort w f) (subst (λ x. IsSorted (p4_sort w x)) is c.requires.sort) in
    let sort : IsSorted (p4_sort w f) = all.2 in
    let size : expr_size (expr_of c.args.expr.now) ≡ suc (expr_size d + expr_size e + expr_size f) = ap expr_size is in
    let small : expr_size f < expr_size (expr_of c.args.expr.now) = omega (arith, size) in
    search rules

pub returns-in_ok-a-in-Unary : goal.returns-in_ok-a-in-Unary
returns-in_ok-a-in-Unary t c =
    let p = program_at c.args.names.now in
    let b = c.args.names.now.in_ingress in
    let w = within_in p b in
    let e = expr_of c.in-Unary.a.value in
    let op = unary_of c.in-Unary.op in
    let is : expr_of c.args.expr.now ≡ p_unary op e = search (rules, exprs.the_lemmas, c.in-Unary.is) in
    let part : Means p b e c.in_ok-a-in-Unary.a = search rules in
    subst (λ x. IfOk c.unary.result (λ m. Means p b x m)) (sym is)
    (IfOk-weaker c.unary.result _ _ (λ m o. means_one p b op e c.in_ok-a-in-Unary.a m part o) c.unary.ensures)

pub returns-in_ok-b-in-Binary : goal.returns-in_ok-b-in-Binary
returns-in_ok-b-in-Binary t c =
    let p = program_at c.args.names.now in
    let b = c.args.names.now.in_ingress in
    let w = within_in p b in
    let op = binary_of c.in-Binary.op in
    let e = expr_of c.in-Binary.a.value in
    let f = expr_of c.in-Binary.b.value in
    let is : expr_of c.args.expr.now ≡ p_binary op e f = search (rules, exprs.the_lemmas, c.in-Binary.is) in
    let first : Means p b e c.in_ok-a-in-Binary.a = search rules in
    let second : Means p b f c.in_ok-b-in-Binary.b = search rules in
    subst (λ x. IfOk c.binary.result (λ m. Means p b x m)) (sym is)
    (IfOk-weaker c.binary.result _ _ (λ m o. means_two p b op e f c.in_ok-a-in-Binary.a c.in_ok-b-in-Binary.b m (no_implies c.in-Binary.op) first second o) c.binary.ensures)

pub returns-in_ok-a-in-Slice : goal.returns-in_ok-a-in-Slice
returns-in_ok-a-in-Slice t c =
    let p = program_at c.args.names.now in
    let b = c.args.names.now.in_ingress in
    let w = within_in p b in
    let e = expr_of c.in-Slice.a.value in
    let is : expr_of c.args.expr.now ≡ p_slice e c.in-Slice.high c.in-Slice.low = search (rules, exprs.the_lemmas, c.in-Slice.is) in
    let part : Means p b e c.in_ok-a-in-Slice.a = search rules in
    subst (λ x. IfOk c.slice.result (λ m. Means p b x m)) (sym is)
    (IfOk-weaker c.slice.result _ _ (λ m o. means_slice p b e c.in-Slice.high c.in-Slice.low c.in_ok-a-in-Slice.a m part o) c.slice.ensures)

pub returns-in_ok-b-in-Pick : goal.returns-in_ok-b-in-Pick
returns-in_ok-b-in-Pick t c =
    let p = program_at c.args.names.now in
    let b = c.args.names.now.in_ingress in
    let w = within_in p b in
    let d = expr_of c.in-Pick.condition.value in
    let e = expr_of c.in-Pick.a.value in
    let f = expr_of c.in-Pick.b.value in
    let is : expr_of c.args.expr.now ≡ p_pick d e f = search (rules, exprs.the_lemmas, c.in-Pick.is) in
    let condition : Means p b d c.in_ok-condition-in-Pick.condition = search rules in
    let first : Means p b e c.in_ok-a-in-Pick.a = search rules in
    let second : Means p b f c.in_ok-b-in-Pick.b = search rules in
    subst (λ x. IfOk c.pick.result (λ m. Means p b x m)) (sym is)
    (IfOk-weaker c.pick.result _ _ (λ m o. means_three p b d e f c.in_ok-condition-in-Pick.condition c.in_ok-a-in-Pick.a c.in_ok-b-in-Pick.b m condition first second o) c.pick.ensures)
