use Rattle.std.proofs.Common.{◌∙◌, ap, sym, subst}
use Rattle.std.specs.Prelude.{option_and_then}
use Rattle.cocoon_num.specs.Sorts as sorts
use Rattle.p4_ir.specs.P4Tree as tree
use Rattle.p4_resolve.specs.Typed.{Means}
use Rattle.p4_resolve.proofs.exprs.slice.Goals as goal

pub returns-in_ok-expr-in-Some : goal.returns-in_ok-expr-in-Some
returns-in_ok-expr-in-Some c = λ d e m.
    let a = subst (Means d e) c.in-Some.is m in
    c.with_sort.ensures d (tree.p_slice e c.args.high c.args.low) (c.in_ok-expr-in-Some.ensures ∙ ap (λ x. tree.p_slice x c.args.high c.args.low) a.0) (c.slice_sort-sort.ensures ∙ ap (option_and_then (λ s. sorts.slice_sort s c.args.high c.args.low)) (sym a.1))
