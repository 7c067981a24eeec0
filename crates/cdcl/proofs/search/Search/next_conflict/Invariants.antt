use Rattle.cnf_core.specs.TrailViews.{not_true}
use Rattle.cdcl.specs.States.{IsReady, IsSound, SameSteps}
use Rattle.cdcl.proofs.search.Search.next_conflict.Given as goal

abbrev pub invariant-loop-conflict : goal.invariant-loop-conflict
invariant-loop-conflict l = record {
  sound : IsSound l.cnf l.self;
  ready : IsReady l.cnf l.self;
  same : SameSteps l.fn.self l.self;
}

abbrev pub decreases-loop-conflict : goal.decreases-loop-conflict
decreases-loop-conflict l = not_true l.self.trail
