use Rattle.std.proofs.Common.{◌≡◌, ◌+◌, ◌*◌, ◌++◌, drop, map, take}
use Rattle.cocoon_syntax.specs.TreeOf.{design_of, expr_of, exprs_of}
use Rattle.cocoon_types.specs.Design.{functions}
use Rattle.role_values.proofs.Sizes.{all_nodes, nodes, weight}
use Rattle.expr_terms.specs.Scopes.{CanMakeAll, terms_in}
use Rattle.expr_terms.specs.Variables.{AreThere, Keeps, terms_at}
use Rattle.expr_terms.proofs.exprs.+make.Given as goal

abbrev pub decreases-make : goal.decreases-make
decreases-make l = 5 * (weight (take l.scope.now.before (functions (design_of l.scope.now.checked.now))) + nodes (expr_of l.expr.now))

abbrev pub decreases-make_all : goal.decreases-make_all
decreases-make_all l = 5 * (weight (take l.scope.now.before (functions (design_of l.scope.now.checked.now))) + all_nodes (exprs_of (map expr_of l.exprs.now))) + 4

abbrev pub decreases-call : goal.decreases-call
decreases-call l = 5 * weight (take l.scope.now.before (functions (design_of l.scope.now.checked.now))) + 3

abbrev pub decreases-call_function : goal.decreases-call_function
decreases-call_function l = 5 * weight (take l.scope.now.before (functions (design_of l.scope.now.checked.now))) + 2

abbrev pub decreases-make_body : goal.decreases-make_body
decreases-make_body l = 5 * (weight (take l.number (functions (design_of l.scope.now.checked.now))) + nodes (expr_of l.body.now)) + 1

abbrev pub invariant-make_all-loop-expr : goal.invariant-make_all-loop-expr
invariant-make_all-loop-expr l = record {
  kept : Keeps l.fn.terms l.terms;
  there : AreThere l.terms l.made.items;
  can : CanMakeAll l.scope l.terms l.variables l.fields (exprs_of (map expr_of (drop l.expr-index l.exprs)));
  terms : terms_at l.terms l.made.items ++ terms_in l.scope l.terms l.variables l.fields (exprs_of (map expr_of (drop l.expr-index l.exprs)))
      ≡ terms_in l.scope l.fn.terms l.variables l.fields (exprs_of (map expr_of l.exprs));
}
