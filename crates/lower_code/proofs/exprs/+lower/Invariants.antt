use Rattle.std.proofs.Common.{◌≡◌, ◌+◌, ◌*◌, drop, map, take}
use Rattle.cocoon_syntax.specs.TreeOf as tree
use Rattle.cocoon_syntax.specs.TreeOf.{design_of, exprs_of}
use Rattle.cocoon_types.specs.Design.{functions}
use Rattle.lowering.specs.Lower.{lower_exprs}
use Rattle.p4_ir.specs.Program.{expr_of}
use Rattle.lower_code.specs.Growth.{counts_of, so_far, with_exprs}
use Rattle.lower_code.specs.Scopes.{callees_in, design_in}
use Rattle.lower_code.specs.Variables.{variables_of}
use Rattle.lower_code.proofs.Sizes.{all_nodes, nodes, weight}
use Rattle.lower_code.proofs.Steps.{prepended}
use Rattle.lower_code.proofs.exprs.+lower.Given as goal

abbrev pub decreases-lower_expr : goal.decreases-lower_expr
decreases-lower_expr l = 5 * (weight (take l.scope.now.before (functions (design_of l.scope.now.checked.now))) + nodes (tree.expr_of l.expr.now))

abbrev pub decreases-lower_exprs : goal.decreases-lower_exprs
decreases-lower_exprs l = 5 * (weight (take l.scope.now.before (functions (design_of l.scope.now.checked.now))) + all_nodes (exprs_of (map tree.expr_of l.exprs.now))) + 4

abbrev pub decreases-lower_call : goal.decreases-lower_call
decreases-lower_call l = 5 * weight (take l.scope.now.before (functions (design_of l.scope.now.checked.now))) + 3

abbrev pub decreases-lower_function : goal.decreases-lower_function
decreases-lower_function l = 5 * weight (take l.scope.now.before (functions (design_of l.scope.now.checked.now))) + 2

abbrev pub decreases-lower_body : goal.decreases-lower_body
decreases-lower_body l = 5 * (weight (take l.number (functions (design_of l.scope.now.checked.now))) + nodes (tree.expr_of l.body.now)) + 1

abbrev pub invariant-lower_exprs-loop-expr : goal.invariant-lower_exprs-loop-expr
invariant-lower_exprs-loop-expr l =
    with_exprs (so_far (design_in l.scope) l.fn.to l.fn.code.items) (lower_exprs (callees_in l.scope) (variables_of l.variables) (counts_of l.fn.to.counts) (exprs_of (map tree.expr_of l.exprs)))
    ≡ prepended (map expr_of l.lowered.items) (with_exprs (so_far (design_in l.scope) l.to l.code.items)
    (lower_exprs (callees_in l.scope) (variables_of l.variables) (counts_of l.to.counts) (exprs_of (map tree.expr_of (drop l.expr-index l.exprs)))))
