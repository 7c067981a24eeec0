use Rattle.std.proofs.Common.{ap, is_some, sym, subst, ◌<◌, [], ◌∷◌, ◌++◌}
use Rattle.std.specs.Prelude.{reverse}
use Rattle.bv_terms.specs.Arenas.{term_at}
use Rattle.bv_terms.specs.Walks.{walk}
use Rattle.bv_terms.specs.Steps.{entered}
use Rattle.bv_terms.proofs.Walking.{Walking, entered_size, first-walks, pop-walks, step-less, step-walks}
use Rattle.bv_terms.proofs.walk.distinct.Goals as goal

pub loop-at-init : goal.loop-at-init
loop-at-init c =
    let last = walk (term_at c.args.terms.now c.args.term) [] in
    subst (λ es. Walking c.args.terms.now last c.new-2.result.items c.in_ok-left.left (reverse es)) (sym c.in_ok-push.ensures.items)
    (subst (λ es. Walking c.args.terms.now last c.new-2.result.items c.in_ok-left.left (reverse (es ++ entered c.args.term ∷ []))) (sym c.new-3.ensures.items)
    (subst (λ xs. Walking c.args.terms.now last xs c.in_ok-left.left (entered c.args.term ∷ [])) (sym c.new-2.ensures.items)
    (first-walks c.args.terms.now c.args.term c.in_ok-left.left c.count.ensures.arena c.requires (λ k. ap is_some (c.in_ok-left.ensures k)))))

pub step-requires : goal.step-requires
step-requires c = (pop-walks c.args.terms.now _ _ _ c.in-Some.at _ _ c.in-Some.ensures.items c.loop-at.invariant).pending.0.there

pub loop-at-smaller : goal.loop-at-smaller
loop-at-smaller c =
    subst (λ es. entered_size c.args.terms.now c.step.new.self.entered.items < entered_size c.args.terms.now es) (sym c.in-Some.ensures.items)
    (step-less c.args.terms.now _ c.in-Some.at (record { order = c.loop-at.walk.order; left = c.loop-at.walk.left; entered = c.pop.new.self }) c.step.new.self
    (pop-walks c.args.terms.now _ _ _ c.in-Some.at _ _ c.in-Some.ensures.items c.loop-at.invariant) c.in_ok-step.ensures)

pub loop-at-preserved : goal.loop-at-preserved
loop-at-preserved c =
    step-walks c.args.terms.now _ c.in-Some.at (record { order = c.loop-at.walk.order; left = c.loop-at.walk.left; entered = c.pop.new.self }) c.step.new.self
    (pop-walks c.args.terms.now _ _ _ c.in-Some.at _ _ c.in-Some.ensures.items c.loop-at.invariant) c.in_ok-step.ensures
