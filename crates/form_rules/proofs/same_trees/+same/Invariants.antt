use Rattle.std.proofs.Common.{◌≡◌, drop, map}
use Rattle.cocoon_syntax.specs.TreeOf.{expr_of, exprs_of}
use Rattle.cocoon_types.specs.SameTrees.{same_exprs}
use Rattle.form_rules.proofs.same_trees.+same.Given as goal

abbrev pub invariant-are_same-loop-expr : goal.invariant-are_same-loop-expr
invariant-are_same-loop-expr l =
    same_exprs (exprs_of (map expr_of (drop l.expr-index l.exprs))) (exprs_of (map expr_of l.rest)) ≡ same_exprs (exprs_of (map expr_of l.exprs)) (exprs_of (map expr_of l.others))
