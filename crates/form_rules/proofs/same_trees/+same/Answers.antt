use Rattle.std.proofs.Common.{◌∙◌, map, ap, sym}
use Rattle.std.proofs.lemmas.List.{drop_all}
use Rattle.cocoon_syntax.specs.TreeOf.{expr_of, exprs_of}
use Rattle.cocoon_types.specs.SameTrees.{same_exprs}
use Rattle.form_rules.proofs.CallTrees.{none_left}
use Rattle.form_rules.proofs.same_trees.+same.Goals as goal

pub are_same-returns : goal.are_same-returns
are_same-returns t c =
    c.is_empty.ensures ∙ none_left c.loop-expr.rest.now
    ∙ ap (λ l. same_exprs (exprs_of (map expr_of l)) (exprs_of (map expr_of c.loop-expr.rest.now))) (sym (drop_all c.loop-expr.expr-index c.args.exprs.now c.loop-expr-test.false))
    ∙ c.loop-expr.invariant
