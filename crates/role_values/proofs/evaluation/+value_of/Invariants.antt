use Rattle.std.proofs.Common.{◌≡◌, ◌+◌, ◌*◌, ◌++◌, drop, map, option_map, take}
use Rattle.cocoon_syntax.specs.TreeOf.{design_of, expr_of, exprs_of}
use Rattle.cocoon_types.specs.Design.{functions}
use Rattle.role_values.specs.Kept.{KeepsValues}
use Rattle.role_values.specs.Scenes.{all_values}
use Rattle.role_values.proofs.Sizes.{all_nodes, nodes, weight}
use Rattle.role_values.proofs.evaluation.+value_of.Given as goal

abbrev pub decreases-value_of : goal.decreases-value_of
decreases-value_of l = 8 * (weight (take l.scene.now.before (functions (design_of l.scene.now.checked.now))) + nodes (expr_of l.expr.now))

abbrev pub decreases-numbers_of : goal.decreases-numbers_of
decreases-numbers_of l = 8 * (weight (take l.scene.now.before (functions (design_of l.scene.now.checked.now))) + all_nodes (exprs_of (map expr_of l.exprs.now))) + 7

abbrev pub decreases-apply : goal.decreases-apply
decreases-apply l = 8 * weight (take l.scene.now.before (functions (design_of l.scene.now.checked.now))) + 6

abbrev pub decreases-call : goal.decreases-call
decreases-call l = 8 * weight (take l.scene.now.before (functions (design_of l.scene.now.checked.now))) + 5

abbrev pub decreases-call_once : goal.decreases-call_once
decreases-call_once l = 8 * (weight (take l.number (functions (design_of l.scene.now.checked.now))) + nodes (expr_of l.body.now)) + 3

abbrev pub decreases-call_bound : goal.decreases-call_bound
decreases-call_bound l = 8 * (weight (take l.number (functions (design_of l.scene.now.checked.now))) + nodes (expr_of l.body.now)) + 2

abbrev pub decreases-call_body : goal.decreases-call_body
decreases-call_body l = 8 * (weight (take l.number (functions (design_of l.scene.now.checked.now))) + nodes (expr_of l.body.now)) + 1

abbrev pub invariant-numbers_of-loop-expr : goal.invariant-numbers_of-loop-expr
invariant-numbers_of-loop-expr l = record {
  numbers : all_values l.scene l.state (map expr_of l.exprs)
      ≡ option_map (λ ns. l.found.items ++ ns) (all_values l.scene l.state (map expr_of (drop l.expr-index l.exprs)));
  keeps : KeepsValues l.scene l.calls;
}
