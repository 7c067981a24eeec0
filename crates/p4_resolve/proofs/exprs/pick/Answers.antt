use Rattle.std.proofs.Common.{◌∙◌, ap, ap₂, sym, subst, Some}
use Rattle.cocoon_num.specs.Sorts as sorts
use Rattle.cocoon_num.specs.Values.{with_all}
use Rattle.p4_ir.specs.P4Kinds as rules
use Rattle.p4_ir.specs.P4Tree as tree
use Rattle.p4_ir.specs.Program as ir
use Rattle.p4_kinds.specs.Typed.{sort_of}
use Rattle.p4_resolve.specs.Typed.{Means}
use Rattle.p4_resolve.proofs.exprs.pick.Goals as goal

pub returns-in_ok-expr-in-Some-Some-Some : goal.returns-in_ok-expr-in-Some-Some-Some
returns-in_ok-expr-in-Some-Some-Some c = λ w i d e l m n.
    let k = subst (Means w i) c.in-Some-Some-Some.is-0 l in
    let a = subst (Means w d) c.in-Some-Some-Some.is-1 m in
    let b = subst (Means w e) c.in-Some-Some-Some.is-2 n in
    c.with_sort.ensures w (tree.p_pick i d e) (c.in_ok-expr-in-Some-Some-Some.ensures ∙ ap (λ x. tree.p_pick x (ir.expr_of c.in-Some-Some-Some.a.expr) (ir.expr_of c.in-Some-Some-Some.b.expr)) k.0 ∙ ap₂ (tree.p_pick i) a.0 b.0)
    (c.pick_sort-sort.ensures ∙ ap (λ x. with_all sorts.pick_sort x (sort_of (Some c.in-Some-Some-Some.a.sort)) (sort_of (Some c.in-Some-Some-Some.b.sort))) (sym k.1) ∙ ap₂ (with_all sorts.pick_sort (rules.p4_sort w i)) (sym a.1) (sym b.1))
