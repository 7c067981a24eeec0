use Rattle.std.proofs.Common.{◌≡◌, ◌-◌, ◌<◌, length}
use Rattle.cnf_core.specs.Literals.{opposite}
use Rattle.cnf_core.specs.Trails.{literal_at}
use Rattle.cnf_core.specs.TrailViews.{trues}
use Rattle.cdcl.specs.States.{IsLonger, IsReady, IsSound, SameSteps}
use Rattle.cdcl.specs.Watching.{IsLookedAt, list_of}
use Rattle.cdcl.proofs.search.Search.propagate_literal.Given as goal

abbrev pub invariant-loop-number : goal.invariant-loop-number
invariant-loop-number l = record {
  sound : IsSound l.cnf l.self;
  ready : IsReady l.cnf l.self;
  same : SameSteps l.fn.self l.self;
  propagated : l.self.propagated ≡ l.fn.self.propagated;
  longer : IsLonger l.fn.self l.self;
  less : l.self.propagated < length (trues l.self.trail);
  off : literal_at (trues l.self.trail) l.self.propagated ≡ opposite l.off.number;
  looked : IsLookedAt (trues l.self.trail) l.self.watches l.off.number l.at;
}

abbrev pub decreases-loop-number : goal.decreases-loop-number
decreases-loop-number l = length (list_of l.self.watches l.off.number) - l.at
