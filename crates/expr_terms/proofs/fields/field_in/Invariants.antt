use Rattle.std.proofs.Common.{◌≡◌, ◌≤◌, ◌-◌, List, drop, map}
use Rattle.cocoon_syntax.specs.TreeOf.{param_of}
use Rattle.bv_terms.specs.declared.node.Node.{Node}
use Rattle.obligation_laws.specs.TermOf.{term_in}
use Rattle.expr_terms.specs.Variables.{terms_at}
use Rattle.expr_terms.proofs.fields.field_in.Given as goal

abbrev pub invariant-loop-at : goal.invariant-loop-at
invariant-loop-at l = record {
  within : l.at ≤ l.count;
  same : (nodes : List Node) → term_in (map param_of l.params) (terms_at nodes l.terms) l.field ≡ term_in (map param_of (drop l.at l.params)) (terms_at nodes (drop l.at l.terms)) l.field;
}

abbrev pub decreases-loop-at : goal.decreases-loop-at
decreases-loop-at l = l.count - l.at
