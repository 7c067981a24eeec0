use Rattle.std.proofs.Common.{◌≡◌, List, drop, map}
use Rattle.cocoon_syntax.specs.TreeOf.{header_of}
use Rattle.bv_terms.specs.declared.node.Node.{Node}
use Rattle.obligation_laws.specs.TermOf.{field_term}
use Rattle.expr_terms.specs.Variables.{AreThere, terms_at}
use Rattle.expr_terms.proofs.fields.field.Given as goal

abbrev pub invariant-loop-declared : goal.invariant-loop-declared
invariant-loop-declared l = record {
  same : (nodes : List Node) → field_term (map header_of l.headers) (terms_at nodes l.terms) l.header l.field ≡ field_term (map header_of (drop l.declared-index l.headers)) (terms_at nodes l.rest) l.header l.field;
  there : (nodes : List Node) → AreThere nodes l.terms → AreThere nodes l.rest;
}
