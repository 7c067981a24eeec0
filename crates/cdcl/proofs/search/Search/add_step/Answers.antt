use Rattle.std.proofs.Common.{◌≡◌, ◌∙◌, ◌∷◌, [], ap, arith, length, subst, sym, true, ◌++◌}
use Rattle.std.specs.Prelude.{slice_get}
use Rattle.std.proofs.lemmas.List.{length_push}
use Rattle.cnf_core.specs.Clauses.{literals}
use Rattle.cnf_core.specs.Deriving.{has_no_value, known}
use Rattle.cnf_core.specs.Literals.{Names}
use Rattle.cnf_core.specs.TrailViews.{trues}
use Rattle.cdcl.specs.States.{clauses_of}
use Rattle.cdcl.specs.Watching.{IsWatching}
use Rattle.cdcl.specs.declared.watches.Watches.{Watches}
use Rattle.cdcl.proofs.Asserting.{asserted-reason, unset}
use Rattle.cdcl.proofs.Attaching.{asserted-watching}
use Rattle.cdcl.proofs.Jumping.{get-last}
use Rattle.cdcl.proofs.Membership.{forced-parts}
use Rattle.cdcl.proofs.Trailing.{named-literal}
use Rattle.cdcl.proofs.search.Search.add_step.Goals as goal

pub enqueue-requires-clause-named : goal.enqueue-requires-clause-named
enqueue-requires-clause-named c =
    let cnf = c.args.cnf.now in
    let ls = literals c.args.step.clause in
    let first = c.args.pair.first.number in
    subst (λ v. Names v first) (sym c.in_ok-push_step.ensures.sound.same_room)
    (named-literal {vars = cnf.vars} ls c.requires.follows.proper.named first (forced-parts (trues c.args.self.now.trail) ls first c.requires.asserting.forces).within)

pub enqueue-requires-clause-no_value : goal.enqueue-requires-clause-no_value
enqueue-requires-clause-no_value c =
    let first = c.args.pair.first.number in
    subst (λ ts. has_no_value ts first ≡ true) (sym c.push_step.ensures.trues) (unset (trues c.args.self.now.trail) (literals c.args.step.clause) first c.requires.asserting.forces)

pub enqueue-requires-clause-forced : goal.enqueue-requires-clause-forced
enqueue-requires-clause-forced c =
    let s = c.args.self.now in
    let cnf = c.args.cnf.now in
    let new = c.push_step.new.self in
    asserted-reason (clauses_of cnf s) (clauses_of cnf new) (literals c.args.step.clause) (trues s.trail) (trues new.trail) c.args.pair.first.number c.count-number.result
    c.in_ok-push_step.ensures.clauses c.push_step.ensures.trues c.count-number.ensures c.requires.asserting.forces

pub watch-requires-clause-numbered : goal.watch-requires-clause-numbered
watch-requires-clause-numbered c =
    let pairs = ap (λ (w : Watches). length w.pairs.items) (c.enqueue.ensures.watches ∙ c.push_step.ensures.pairs) in
    omega (arith, pairs, c.requires.ready.count, c.requires.numbered)

pub watch-requires-clause-next : goal.watch-requires-clause-next
watch-requires-clause-next c =
    let s = c.args.self.now in
    let cnf = c.args.cnf.now in
    let new = c.enqueue.new.self in
    let ls = literals c.args.step.clause in
    let pair = c.args.pair in
    let pairs = ap (λ (w : Watches). length w.pairs.items) (c.enqueue.ensures.watches ∙ c.push_step.ensures.pairs) ∙ c.requires.ready.count in
    let clauses = ap (known cnf) c.enqueue.ensures.steps ∙ c.in_ok-push_step.ensures.clauses in
    let starts = c.enqueue.ensures.starts ∙ c.push_step.ensures.starts in
    let propagated = c.enqueue.ensures.propagated ∙ c.push_step.ensures.propagated in
    let us = c.in_ok-enqueue.ensures.trues ∙ ap (λ ts. ts ++ pair.first.number ∷ []) c.push_step.ensures.trues in (
      ls,
      ap (λ n. slice_get (clauses_of cnf new) n) pairs ∙ ap (λ cs. slice_get cs (length (clauses_of cnf s))) clauses ∙ get-last (clauses_of cnf s) ls,
      subst (λ bs. IsWatching (trues new.trail) new.propagated bs ls pair) (sym starts)
          (subst (λ n. IsWatching (trues new.trail) n s.starts.items ls pair) (sym propagated)
          (asserted-watching (trues s.trail) (trues new.trail) s.propagated s.starts.items ls pair c.requires.ready.watched.propagated_true us c.requires.asserting)),
    )

pub returns-clause-ready : goal.returns-clause-ready
returns-clause-ready c =
    let s = c.args.self.now in
    let cnf = c.args.cnf.now in
    let pairs = ap (λ (w : Watches). length w.pairs.items) (c.enqueue.ensures.watches ∙ c.push_step.ensures.pairs) in
    let clauses = ap (known cnf) (c.in_ok-watch.ensures.same.steps ∙ c.enqueue.ensures.steps) ∙ c.in_ok-push_step.ensures.clauses in
    record {
      count = omega (arith, c.in_ok-watch.ensures.count, pairs, c.requires.ready.count, ap length clauses, length_push (clauses_of cnf s) (literals c.args.step.clause));
      watched = c.in_ok-watch.ensures.watched;
    }

pub returns-clause-one : goal.returns-clause-one
returns-clause-one c = omega (arith, ap length c.in_ok-watch.ensures.same.steps, ap length c.enqueue.ensures.steps, c.in_ok-push_step.ensures.steps)
