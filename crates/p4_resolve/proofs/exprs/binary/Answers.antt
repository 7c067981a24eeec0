use Rattle.std.proofs.Common.{◌∙◌, ap, ap₂, sym, subst, None}
use Rattle.cocoon_num.specs.Sorts as sorts
use Rattle.cocoon_num.specs.Values.{with_both}
use Rattle.p4_ir.specs.P4Kinds as rules
use Rattle.p4_ir.specs.P4Tree as tree
use Rattle.p4_ir.specs.Program as ir
use Rattle.p4_resolve.specs.Typed.{Means}
use Rattle.p4_kinds.proofs.Deep.{no_implication}
use Rattle.std.proofs.Common.{if◌then◌else◌}
use Rattle.p4_resolve.proofs.exprs.binary.Goals as goal

pub returns-in_ok-expr-in-Some-Some : goal.returns-in_ok-expr-in-Some-Some
returns-in_ok-expr-in-Some-Some c = λ w d e m n.
    let op = ir.binary_of c.args.op in
    let a = subst (Means w d) c.in-Some-Some.is-0 m in
    let b = subst (Means w e) c.in-Some-Some.is-1 n in
    let both = with_both (sorts.binary_sort op) (rules.p4_sort w d) (rules.p4_sort w e) in
    c.with_sort.ensures w (tree.p_binary op d e) (c.in_ok-expr-in-Some-Some.ensures ∙ ap₂ (tree.p_binary op) a.0 b.0)
    (c.binary_sort-sort.ensures ∙ ap₂ (with_both (sorts.binary_sort op)) (sym a.1) (sym b.1) ∙ ap (λ t. if t then None else both) (sym (no_implication c.args.op)))
