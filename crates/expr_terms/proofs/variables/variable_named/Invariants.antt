use Rattle.std.proofs.Common.{◌≡◌, ◌≤◌, List, take, length}
use Rattle.bv_terms.specs.declared.node.Node.{Node}
use Rattle.obligation_laws.specs.TermOf.{variable_term}
use Rattle.expr_terms.specs.Variables.{variables_of}
use Rattle.expr_terms.proofs.variables.variable_named.Given as goal

abbrev pub invariant-loop-at : goal.invariant-loop-at
invariant-loop-at l = record {
  within : l.at ≤ length l.variables;
  same : (nodes : List Node) → variable_term (variables_of nodes l.variables) l.name ≡ variable_term (variables_of nodes (take l.at l.variables)) l.name;
}

abbrev pub decreases-loop-at : goal.decreases-loop-at
decreases-loop-at l = l.at
