use Rattle.std.proofs.Common.{rules, IsTrue, ◌∙◌}
use Rattle.std.proofs.lemmas.Bool.{both_ways, false≢true}
use Rattle.cnf_core.specs.TrailViews.{room}
use Rattle.proof_check.proofs.Hinting.{derived-follows, follows-derived, known-named, one-more}
use Rattle.proof_check.proofs.step.each_follows.Goals as goal

pub follows-requires-clause-named : goal.follows-requires-clause-named
follows-requires-clause-named c = known-named c.args.cnf.now c.args.steps.now c.before-in-loop-index.result.now c.loop-index.index (room c.loop-index.trail)
    c.requires.named c.loop-index.invariant.derived c.before-in-loop-index.ensures c.loop-index.invariant.same_room

pub returns-then-not-branch : goal.returns-then-not-branch
returns-then-not-branch c = (
  λ e. absurd (false≢true e),
  λ all.
      absurd (both_ways c.in_ok-follows.field-0 (search rules) (c.in_ok-follows.ensures.exact.1
      (derived-follows c.args.cnf.now c.args.steps.now c.before-in-loop-index.result.now c.loop-index.index (room c.loop-index.trail) c.index-steps-index.result
      c.loop-index-test.true c.index-steps-index.is c.before-in-loop-index.ensures c.loop-index.invariant.same_room (all c.loop-index.index c.loop-index-test.true)))),
)

pub loop-index-preserved : goal.loop-index-preserved
loop-index-preserved c =
    let held : IsTrue c.in_ok-follows.field-0 = search rules in
    record {
      empty = c.in_ok-follows.ensures.empty;
      same_room = c.in_ok-follows.ensures.room ∙ c.loop-index.invariant.same_room;
      derived = one-more c.args.cnf.now c.args.steps.now c.loop-index.index c.loop-index.invariant.derived
          (follows-derived c.args.cnf.now c.args.steps.now c.before-in-loop-index.result.now c.loop-index.index (room c.loop-index.trail) c.index-steps-index.result
          c.loop-index-test.true c.index-steps-index.is c.before-in-loop-index.ensures c.loop-index.invariant.same_room (c.in_ok-follows.ensures.exact.0 held));
    }
