use Rattle.std.proofs.Common.{◌-◌, ◌≤◌, length}
use Rattle.cdcl.specs.States.{IsReady, IsSound}
use Rattle.cdcl.proofs.answer.decide_and_learn.Given as goal

abbrev pub invariant-loop-alloc : goal.invariant-loop-alloc
invariant-loop-alloc l = record {
  sound : IsSound l.cnf l.search;
  ready : IsReady l.cnf l.search;
  within : length l.search.steps.items ≤ l.conflicts;
}

abbrev pub decreases-loop-alloc : goal.decreases-loop-alloc
decreases-loop-alloc l = l.conflicts - length l.search.steps.items
