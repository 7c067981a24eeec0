use Rattle.std.proofs.Common.{◌≡◌, drop, map}
use Rattle.cocoon_syntax.specs.TreeOf.{expr_of, exprs_of}
use Rattle.lowering.specs.LowerBlock.{in_exprs}
use Rattle.lower_code.proofs.uses.+expr.Given as goal

abbrev pub invariant-exprs_use-loop-expr : goal.invariant-exprs_use-loop-expr
invariant-exprs_use-loop-expr l = in_exprs l.name (exprs_of (map expr_of l.exprs)) ≡ in_exprs l.name (exprs_of (map expr_of (drop l.expr-index l.exprs)))
