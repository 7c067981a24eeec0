use Rattle.std.proofs.Common.{◌≡◌, ◌++◌, map, take}
use Rattle.cocoon_syntax.specs.TreeOf.{design_of}
use Rattle.expr_terms.specs.Variables.{AreThere, Keeps, terms_at}
use Rattle.query_laws.specs.Queries.{instance_term}
use Rattle.queries.proofs.joining.put_instances.Given as goal

abbrev pub invariant-loop-instance : goal.invariant-loop-instance
invariant-loop-instance l = record {
  kept : Keeps l.fn.terms l.terms;
  there : AreThere l.terms l.ids.items;
  terms : terms_at l.terms l.ids.items ≡ terms_at l.fn.terms l.fn.ids.items ++ map (instance_term (design_of l.checked)) (take l.instance-index l.instances);
}
