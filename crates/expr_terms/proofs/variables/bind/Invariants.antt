use Rattle.std.proofs.Common.{◌≡◌, ◌≤◌, List, drop, length, map}
use Rattle.cocoon_syntax.specs.TreeOf.{param_of}
use Rattle.bv_terms.specs.declared.node.Node.{Node}
use Rattle.obligation_laws.specs.TermOf.{bind_terms}
use Rattle.expr_terms.specs.Variables.{AreThere, VariablesThere, terms_at, variables_of}
use Rattle.expr_terms.proofs.variables.bind.Given as goal

abbrev pub invariant-loop-at : goal.invariant-loop-at
invariant-loop-at l = record {
  params : l.at ≤ length l.params;
  args : l.at ≤ length l.args;
  bound : (nodes : List Node) → variables_of nodes l.bound.items ≡ bind_terms (map param_of (drop l.at l.params)) (terms_at nodes (drop l.at l.args));
  there : (nodes : List Node) → AreThere nodes l.args → VariablesThere nodes l.bound.items;
}

abbrev pub decreases-loop-at : goal.decreases-loop-at
decreases-loop-at l = l.at
