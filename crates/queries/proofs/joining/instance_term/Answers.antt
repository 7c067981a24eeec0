use Rattle.std.proofs.Common.{◌≡◌, subst}
use Rattle.std.specs.Prelude.{IfOk}
use Rattle.bv_terms.specs.Arenas.{term_at}
use Rattle.cocoon_resolve.specs.Readers.{all_assumptions}
use Rattle.cocoon_syntax.specs.TreeOf.{design_of}
use Rattle.fun_instances.specs.AssumptionTerms.{value_term}
use Rattle.queries.proofs.Instances.{at_there, its_term}
use Rattle.queries.proofs.joining.instance_term.Goals as goal

pub returns-clause-made : goal.returns-clause-made
returns-clause-made c =
    let d = design_of c.args.checked.now in
    let i = c.args.instance.now in
    let a = at_there (all_assumptions d) i.number c.requires.there in
    its_term d i c.value_instance.new.terms c.value_instance.result a.0 a.1 c.value_instance.ensures.there (subst (λ ns. IfOk c.value_instance.result (λ id. term_at c.value_instance.new.terms id ≡ value_term d a.0 ns)) c.items.ensures (c.value_instance.ensures.term a.0 a.1))
