use Rattle.std.proofs.Common.{◌∙◌, ap, sym, subst}
use Rattle.std.specs.Prelude.{option_and_then}
use Rattle.cocoon_num.specs.Sorts as sorts
use Rattle.p4_ir.specs.P4Tree as tree
use Rattle.p4_ir.specs.Program as ir
use Rattle.p4_resolve.specs.Typed.{Means}
use Rattle.p4_resolve.proofs.exprs.unary.Goals as goal

pub returns-in_ok-expr-in-Some : goal.returns-in_ok-expr-in-Some
returns-in_ok-expr-in-Some c = λ d e m.
    let op = ir.unary_of c.args.op in
    let a = subst (Means d e) c.in-Some.is m in
    c.with_sort.ensures d (tree.p_unary op e) (c.in_ok-expr-in-Some.ensures ∙ ap (tree.p_unary op) a.0) (c.unary_sort-sort.ensures ∙ ap (option_and_then (sorts.unary_sort op)) (sym a.1))
