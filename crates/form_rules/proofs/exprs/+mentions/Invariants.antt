use Rattle.std.proofs.Common.{◌≡◌, drop, map}
use Rattle.cocoon_syntax.specs.TreeOf.{expr_of, exprs_of}
use Rattle.form_rules.specs.Tested.{any_mentions}
use Rattle.form_rules.proofs.exprs.+mentions.Given as goal

abbrev pub invariant-mentions_in-loop-expr : goal.invariant-mentions_in-loop-expr
invariant-mentions_in-loop-expr l =
    any_mentions l.name (exprs_of (map expr_of (drop l.expr-index l.exprs))) ≡ any_mentions l.name (exprs_of (map expr_of l.exprs))
