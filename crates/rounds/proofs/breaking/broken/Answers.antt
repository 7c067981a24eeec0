use Rattle.std.proofs.Common.{refl, sym, ap, subst, ◌∙◌}
use Rattle.bv_terms.specs.TermTrees.{IsTerm}
use Rattle.cnf_core.specs.declared.certificates.Instance.{Instance}
use Rattle.cocoon_resolve.specs.Readers.{all_assumptions}
use Rattle.cocoon_syntax.specs.TreeOf.{design_of}
use Rattle.fun_instances.specs.AssumptionTerms.{value_term}
use Rattle.fun_instances.specs.Taking.{NumbersFit}
use Rattle.queries.proofs.Instances.{at_there}
use Rattle.rounds.proofs.Rounds.{its_term}
use Rattle.rounds.proofs.breaking.broken.Goals as goal

pub value_instance-requires-clause-fit : goal.value_instance-requires-clause-fit
value_instance-requires-clause-fit c = λ a at. subst (NumbersFit a) (sym c.items.ensures) (c.requires.fit a at)

pub returns : goal.returns
returns c =
    let d = design_of c.args.checked.now in
    let a = at_there (all_assumptions d) c.args.number c.requires.number in
    let here : Instance = record { number = c.args.number; values = c.args.values } in
    let made = c.in_ok-term.ensures.term a.0 a.1 ∙ ap (value_term d a.0) c.items.ensures ∙ sym (its_term d here a.0 a.1) in
    record { of = refl; term = subst IsTerm made (c.count.ensures.arena.terms c.in_ok-term.term c.in_ok-term.ensures.there) }
