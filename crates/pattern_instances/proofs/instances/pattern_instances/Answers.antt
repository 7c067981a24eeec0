use Rattle.std.proofs.Common.{◌≡◌, ◌<◌, ◌≤◌, length, map, take, sym, ap, subst, ◌∙◌, arith}
use Rattle.std.specs.List.{AllByRecursion}
use Rattle.std.proofs.lemmas.Option.{slice_get_within}
use Rattle.cocoon_resolve.specs.Readers.{all_assumptions, assumptions_to}
use Rattle.cocoon_syntax.specs.TreeOf.{design_of}
use Rattle.bv_terms.specs.Arenas.{term_at}
use Rattle.expr_terms.specs.Scopes.{Takes}
use Rattle.expr_terms.specs.Variables.{MakesAll, terms_at}
use Rattle.expr_terms.proofs.Making.{keeps_on}
use Rattle.query_laws.specs.Tuples.{most_instances, tuples_of}
use Rattle.pattern_instances.specs.Found.{tuple_ids}
use Rattle.pattern_instances.proofs.Firsts.{short}
use Rattle.pattern_instances.proofs.Ids.{there-at}
use Rattle.pattern_instances.proofs.Making.{all-said, few-made, goal-kept, next-made, said}
use Rattle.pattern_instances.proofs.instances.pattern_instances.Goals as goal

pub tuples_of-requires-clause-number : goal.tuples_of-requires-clause-number
tuples_of-requires-clause-number c =
    let d = design_of c.args.checked.now in
    let l : c.loop-assumption.assumption < length (assumptions_to c.args.level d) = (let t = c.loop-assumption-test.true in let e = c.assume_count-assumption-end.ensures in omega (arith, t, e)) in
    let at = there-at (assumptions_to c.args.level d) c.loop-assumption.assumption l in
    slice_get_within (all_assumptions d) c.loop-assumption.assumption at.0 (c.earlier_levels_come_first.ensures d c.args.level c.loop-assumption.assumption at.0 at.1)

pub tuples_of-requires-clause-goal : goal.tuples_of-requires-clause-goal
tuples_of-requires-clause-goal c =
    goal-kept (design_of c.args.checked.now) c.args.terms.now c.loop-assumption.terms (record { term = c.args.goal; applications = c.in_ok-applications.field-0 }) c.loop-assumption.invariant.kept
    (record { there = c.requires.goal; inputs = c.requires.over.0; over = c.requires.over.1; applications_ = c.in_ok-applications.ensures })

pub add_instances-requires-clause-number : goal.add_instances-requires-clause-number
add_instances-requires-clause-number c =
    let d = design_of c.args.checked.now in
    let l : c.loop-assumption.assumption < length (assumptions_to c.args.level d) = (let t = c.loop-assumption-test.true in let e = c.assume_count-assumption-end.ensures in omega (arith, t, e)) in
    let at = there-at (assumptions_to c.args.level d) c.loop-assumption.assumption l in
    slice_get_within (all_assumptions d) c.loop-assumption.assumption at.0 (c.earlier_levels_come_first.ensures d c.args.level c.loop-assumption.assumption at.0 at.1)

pub add_instances-requires-clause-takes : goal.add_instances-requires-clause-takes
add_instances-requires-clause-takes c = λ a is.
    subst (λ vs. AllByRecursion (Takes c.loop-assumption.terms a.params) (tuple_ids vs)) (sym c.deref.ensures.value) (c.in_ok-tuples.ensures a is).takes

pub add_instances-requires-clause-few : goal.add_instances-requires-clause-few
add_instances-requires-clause-few c = few-made c.loop-assumption.terms c.loop-assumption.made.items _ c.loop-assumption.invariant.made

pub loop-assumption-preserved : goal.loop-assumption-preserved
loop-assumption-preserved c =
    let d = design_of c.args.checked.now in
    let old = c.args.terms.now in
    let mid = c.loop-assumption.terms in
    let new = c.add_instances.new.terms in
    let listed = assumptions_to c.args.level d in
    let i = c.loop-assumption.assumption in
    let G = term_at old c.args.goal in
    let l : i < length listed = (let t = c.loop-assumption-test.true in let e = c.assume_count-assumption-end.ensures in omega (arith, t, e)) in
    let at = there-at listed i l in
    let a = at.0 in
    let is = c.earlier_levels_come_first.ensures d c.args.level i a at.1 in
    let same : term_at mid c.args.goal ≡ G = c.loop-assumption.invariant.kept.kept.terms c.args.goal c.requires.goal in
    let tuples : map (terms_at mid) (tuple_ids c.deref.result.now) ≡ take most_instances (tuples_of d a G) =
    ap (λ vs. map (terms_at mid) (tuple_ids vs)) c.deref.ensures.value ∙ (c.in_ok-tuples.ensures a is).are ∙ ap (λ t. take most_instances (tuples_of d a t)) same in
    record {
      made = subst (MakesAll new c.add_instances.new.made.items)
          (next-made d G listed i a at.1 (terms_at mid c.loop-assumption.made.items) (map (terms_at mid) (tuple_ids c.deref.result.now)) c.loop-assumption.invariant.made.terms tuples)
          (c.in_ok-add_instances.ensures.made a is);
      kept = keeps_on old mid new c.loop-assumption.invariant.kept c.add_instances.ensures.kept;
    }

pub returns-clause-terms : goal.returns-clause-terms
returns-clause-terms c =
    let d = design_of c.args.checked.now in
    let G = term_at c.args.terms.now c.args.goal in
    let listed = assumptions_to c.args.level d in
    let l : length listed ≤ c.loop-assumption.assumption = (let t = c.loop-assumption-test.false in let e = c.assume_count-assumption-end.ensures in omega (arith, t, e)) in
    subst (MakesAll c.loop-assumption.terms c.loop-assumption.made.items)
    (ap (λ xs. take most_instances (said d G xs)) (short c.loop-assumption.assumption listed l) ∙ all-said d c.args.level G) c.loop-assumption.invariant.made
