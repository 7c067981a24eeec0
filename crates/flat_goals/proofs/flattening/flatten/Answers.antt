use Rattle.std.proofs.Common.{[], ap, subst, sym, ◌∙◌}
use Rattle.bv_terms.specs.Arenas.{inputs_in, term_at}
use Rattle.bit_blast.specs.Goals.{IsGoal}
use Rattle.bv_terms.specs.TermTrees.{width}
use Rattle.bv_terms.specs.Walks.{applications}
use Rattle.flat_goals.specs.Agreeing.{CanAgree, all_agreements}
use Rattle.flat_goals.specs.Applied.{AreApplied}
use Rattle.flat_goals.proofs.Agreements.{and_all}
use Rattle.flat_goals.proofs.FlatGoals.{are-applied, can-agree, can_flatten, is-flat}
use Rattle.flat_goals.proofs.Reductions.{kept-all}
use Rattle.flat_laws.proofs.Reduced.{reduced-width}
use Rattle.flat_goals.proofs.flattening.flatten.Goals as goal

pub with_all_agreements-requires-clause-goal : goal.with_all_agreements-requires-clause-goal
with_all_agreements-requires-clause-goal c =
    let whole = term_at c.args.terms.now c.args.goal in
    let made = c.in_ok-reduced.ensures.goal in
    (made.there, ap width made.term ∙ reduced-width (applications whole) (inputs_in c.args.terms.now) whole ∙ c.requires.truth)

pub with_all_agreements-requires-clause-agree : goal.with_all_agreements-requires-clause-agree
with_all_agreements-requires-clause-agree c =
    subst (CanAgree c.reduce.new.terms) (sym c.deref.ensures.value)
    (can-agree c.reduce.new.terms (term_at c.args.terms.now c.args.goal) (inputs_in c.args.terms.now) c.requires.alike c.in_ok-reduced.reduced.applications.items
    c.in_ok-reduced.ensures.applications)

pub returns-clause-term : goal.returns-clause-term
returns-clause-term c =
    c.in_ok-goal.ensures.made.term ∙ ap (λ xs. and_all (term_at c.reduce.new.terms c.in_ok-reduced.reduced.goal) (all_agreements (term_at c.reduce.new.terms) [] xs)) c.deref.ensures.value
    ∙ is-flat c.reduce.new.terms (term_at c.args.terms.now c.args.goal) (inputs_in c.args.terms.now) c.in_ok-reduced.reduced.applications.items
    (term_at c.reduce.new.terms c.in_ok-reduced.reduced.goal) c.in_ok-reduced.ensures.applications c.in_ok-reduced.ensures.goal.term

pub returns-clause-goal : goal.returns-clause-goal
returns-clause-goal c =
    let whole = term_at c.args.terms.now c.args.goal in
    let first = inputs_in c.args.terms.now in
    let can = can_flatten c.args.terms.now c.args.goal c.count.ensures.arena c.requires.there c.requires.truth c.requires.alike in
    subst IsGoal (sym (returns-clause-term c)) (c.flat_goals_are_goals.ensures whole first can)

pub returns-clause-applied : goal.returns-clause-applied
returns-clause-applied c =
    let whole = term_at c.args.terms.now c.args.goal in
    let first = inputs_in c.args.terms.now in
    let taken = c.in_ok-reduced.reduced.applications.items in
    subst (AreApplied c.with_all_agreements.new.terms whole first) (sym (c.from.ensures ∙ c.in_ok-applied.ensures))
    (are-applied c.with_all_agreements.new.terms whole first taken
    (kept-all c.reduce.new.terms c.with_all_agreements.new.terms whole first (applications whole) taken c.with_all_agreements.ensures.grown.kept c.in_ok-reduced.ensures.applications))
