use Rattle.std.proofs.Common.{◌≡◌, ◌<◌, ◌∙◌, List, ap, arith, length, subst, sym, ℕ}
use Rattle.cnf_core.specs.Deriving.{EachDerived}
use Rattle.cnf_core.specs.Licensing.{BringsNew}
use Rattle.cnf_core.specs.declared.log.Step.{Step}
use Rattle.cdcl.specs.States.{IsNextConflict}
use Rattle.cdcl.proofs.FirstClauses.{if-ok-weaker, known-count}
use Rattle.cdcl.proofs.answer.decide_and_learn.Goals as goal

pub returns-then-is_empty : goal.returns-then-is_empty
returns-then-is_empty c =
    let budget = c.args.conflicts in
    let less : length c.next_conflict.new.self.steps.items < budget = omega (arith, ap length c.next_conflict.ensures.steps, c.loop-alloc-test.true, c.len.ensures, c.loop-alloc.search.steps.ok.0) in
    if-ok-weaker c.unsat.result (λ answer h. h budget less) c.unsat.ensures

pub returns : goal.returns
returns c =
    let cnf = c.args.cnf.now in
    let log = c.into_log.ensures in
    let sound = c.loop-alloc.invariant.sound in
    let count : length c.loop-alloc.search.steps.items ≡ c.args.conflicts = omega (arith, c.loop-alloc.invariant.within, c.loop-alloc-test.false, c.len.ensures, c.loop-alloc.search.steps.ok.0) in
    let each_new : List Step → Type 0 = λ ss. (k : ℕ) → k < c.args.conflicts → BringsNew cnf ss k in
    record {
      exactly = ap length log ∙ count;
      derived = subst (EachDerived cnf) (sym log) sound.derived;
      new = subst each_new (sym log) (λ k lt. sound.new k (omega (arith, lt, count)));
    }

pub loop-alloc-preserved : goal.loop-alloc-preserved
loop-alloc-preserved c = record {
  sound = c.in_ok-learn.ensures.sound;
  ready = c.in_ok-learn.ensures.ready;
  within = omega (arith, c.in_ok-learn.ensures.one, ap length c.in_ok-conflict.ensures.steps, c.loop-alloc-test.true, c.len.ensures, c.loop-alloc.search.steps.ok.0);
}

pub learn-requires-clause-numbered : goal.learn-requires-clause-numbered
learn-requires-clause-numbered c = omega (arith, known-count c.args.cnf.now c.next_conflict.new.self.steps.items, ap length c.in_ok-conflict.ensures.steps, c.loop-alloc-test.true, c.len.ensures, c.loop-alloc.search.steps.ok.0, c.requires.numbered)

pub learn-requires-clause-conflict : goal.learn-requires-clause-conflict
learn-requires-clause-conflict c = subst (IsNextConflict c.args.cnf.now c.next_conflict.new.self) c.in-Some.is c.in_ok-conflict.ensures.ran

pub unsat-requires-clause-conflict : goal.unsat-requires-clause-conflict
unsat-requires-clause-conflict c = subst (IsNextConflict c.args.cnf.now c.next_conflict.new.self) c.in-Some.is c.in_ok-conflict.ensures.ran
