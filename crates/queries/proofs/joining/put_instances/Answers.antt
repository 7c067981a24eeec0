use Rattle.std.proofs.Common.{◌≡◌, [], ◌∷◌, ◌++◌, map, take, sym, ap, subst, ◌∙◌}
use Rattle.std.proofs.lemmas.List.{map_more}
use Rattle.cocoon_syntax.specs.TreeOf.{design_of}
use Rattle.expr_terms.specs.Variables.{AreThere, terms_at}
use Rattle.expr_terms.proofs.Making.{keeps_on, there_more, there_on}
use Rattle.query_laws.specs.Queries.{instance_term}
use Rattle.queries.proofs.Joins.{one_more}
use Rattle.queries.proofs.joining.put_instances.Goals as goal

pub loop-instance-preserved : goal.loop-instance-preserved
loop-instance-preserved c =
    let d = design_of c.args.checked.now in
    let all = c.args.instances.now in
    let i = c.loop-instance.instance-index in
    let x = c.instance-item.result in
    let n = c.loop-instance.terms in
    let m = c.instance_term.new.terms in
    let ids = c.loop-instance.ids.items in
    let id = c.in_ok-instance_term.field-0 in
    let so_far = c.loop-instance.invariant in
    let kept = c.in_ok-instance_term.ensures.kept in
    let made = c.in_ok-instance_term.ensures.made in
    let front = terms_at c.args.terms.now c.args.ids.now.items in
    let items : c.push.new.self.items ≡ ids ++ id ∷ [] = c.in_ok-push.ensures.items in
    record {
      kept = keeps_on c.args.terms.now n m so_far.kept kept;
      there = subst (AreThere m) (sym items) (there_more m ids id (there_on n m ids kept so_far.there) made.there);
      terms = ap (terms_at m) items ∙ one_more n m ids id (instance_term d x) front (map (instance_term d) (take i all)) kept so_far.there made so_far.terms
          ∙ ap (λ ts. front ++ ts) (sym (map_more (instance_term d) all i x c.loop-instance-test.true ∙ ap (λ y. map (instance_term d) (take i all) ++ instance_term d y ∷ []) (sym c.instance-item.is)));
    }
