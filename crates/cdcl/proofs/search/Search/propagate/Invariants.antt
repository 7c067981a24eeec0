use Rattle.std.proofs.Common.{◌+◌, ◌-◌, ◌≤◌, length}
use Rattle.cnf_core.specs.TrailViews.{not_true, trues}
use Rattle.cdcl.specs.States.{IsReady, IsSound, SameSteps}
use Rattle.cdcl.proofs.search.Search.propagate.Given as goal

abbrev pub invariant-loop-self : goal.invariant-loop-self
invariant-loop-self l = record {
  sound : IsSound l.cnf l.self;
  ready : IsReady l.cnf l.self;
  same : SameSteps l.fn.self l.self;
  fewer : not_true l.self.trail ≤ not_true l.fn.self.trail;
}

abbrev pub decreases-loop-self : goal.decreases-loop-self
decreases-loop-self l = not_true l.self.trail + length (trues l.self.trail) - l.self.propagated
