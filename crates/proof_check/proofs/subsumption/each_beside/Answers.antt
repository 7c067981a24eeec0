use Rattle.std.proofs.Common.{rules, ◌++◌, ◌∷◌, [], ◌∙◌, IsTrue, Ok, ap, arith, refl, subst, take}
use Rattle.std.proofs.lemmas.Bool.{both_ways, false≢true}
use Rattle.cnf_core.specs.Clauses.{literals}
use Rattle.cnf_core.specs.Deriving.{known}
use Rattle.cnf_core.specs.TrailViews.{room}
use Rattle.proof_check.specs.Subsuming.{AllFilled}
use Rattle.proof_check.specs.Registering.{Registers, tops_of}
use Rattle.proof_check.proofs.Subsumed.{filled-more, here-new, known-more, new-here, one-more-new}
use Rattle.proof_check.proofs.Hinting.{derived-follows, known-named}
use Rattle.proof_check.proofs.subsumption.each_beside.Goals as goal

pub brings_new-requires-clause-named : goal.brings_new-requires-clause-named
brings_new-requires-clause-named c = known-named c.args.cnf.now c.args.steps.now c.before-in-loop-index.result.now c.loop-index.index (room c.loop-index.trail)
    c.requires.named (λ k lt. c.requires.derived k (omega (arith, lt, c.loop-index-test.true))) c.before-in-loop-index.ensures c.loop-index.invariant.same_room

pub brings_new-requires-clause-proper : goal.brings_new-requires-clause-proper
brings_new-requires-clause-proper c = (derived-follows c.args.cnf.now c.args.steps.now c.before-in-loop-index.result.now c.loop-index.index (room c.loop-index.trail) c.index-steps-index.result
    c.loop-index-test.true c.index-steps-index.is c.before-in-loop-index.ensures c.loop-index.invariant.same_room (c.requires.derived c.loop-index.index c.loop-index-test.true)).proper

pub returns-then-not-branch : goal.returns-then-not-branch
returns-then-not-branch c = (
  λ e. absurd (false≢true e),
  λ all.
      absurd (both_ways c.in_ok-brings_new.field-0 (search rules) (c.in_ok-brings_new.ensures.exact.1
      (new-here c.args.cnf.now c.args.steps.now c.before-in-loop-index.result.now c.loop-index.index c.index-steps-index.result
      c.loop-index-test.true c.index-steps-index.is c.before-in-loop-index.ensures (all c.loop-index.index c.loop-index-test.true)))),
)

pub loop-index-preserved : goal.loop-index-preserved
loop-index-preserved c =
    let held : IsTrue c.in_ok-brings_new.field-0 = search rules in
    let cnf = c.args.cnf.now in
    let steps = c.args.steps.now in
    let i = c.loop-index.index in
    let x = c.index-steps-index.result in
    let fresh = c.in_ok-brings_new.ensures.exact.0 held in
    let grown = known-more cnf steps i x c.loop-index-test.true c.index-steps-index.is in
    record {
      empty = c.in_ok-brings_new.ensures.empty;
      same_room = c.in_ok-brings_new.ensures.room ∙ c.loop-index.invariant.same_room;
      registered = subst (λ cs. Registers cnf.vars (tops_of cs) c.brings_new.new.chains) grown
          (subst (λ ss. Registers cnf.vars (tops_of (known cnf ss ++ literals x.clause ∷ [])) c.brings_new.new.chains) c.before-in-loop-index.ensures
          (subst (λ v. Registers v (tops_of (known cnf c.before-in-loop-index.result.now ++ literals x.clause ∷ [])) c.brings_new.new.chains) c.loop-index.invariant.same_room
          (c.in_ok-brings_new.ensures.registered (ap Ok held))));
      filled = subst AllFilled grown (filled-more (known cnf (take i steps)) (literals x.clause) c.loop-index.invariant.filled fresh.0);
      new = one-more-new cnf steps i c.loop-index.invariant.new (here-new cnf steps c.before-in-loop-index.result.now i x c.loop-index-test.true c.index-steps-index.is c.before-in-loop-index.ensures fresh);
    }

pub returns : goal.returns
returns c = (λ _. λ k lt. c.loop-index.invariant.new k (omega (arith, lt, c.loop-index-test.false)), λ _. refl)
