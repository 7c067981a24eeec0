use Rattle.std.proofs.Common.{◌≡◌, ◌+◌, drop, map}
use Rattle.cocoon_syntax.specs.TreeOf.{expr_of, exprs_of}
use Rattle.lowering.specs.Counting as spec
use Rattle.lower_code.specs.Scopes.{called_count}
use Rattle.lower_code.proofs.counting.+count.Given as goal

abbrev pub invariant-exprs_count-loop-expr : goal.invariant-exprs_count-loop-expr
invariant-exprs_count-loop-expr l =
    spec.exprs_count l.own (called_count l.part l.scope) (exprs_of (map expr_of l.exprs))
    ≡ l.count + spec.exprs_count l.own (called_count l.part l.scope) (exprs_of (map expr_of (drop l.expr-index l.exprs)))
