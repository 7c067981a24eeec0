use Rattle.cdcl.specs.Waiting.{waiting}
use Rattle.cdcl.proofs.search.Search.first_unassigned.Given as goal

abbrev pub invariant-loop-variable : goal.invariant-loop-variable
invariant-loop-variable l = Unit {0}

abbrev pub decreases-loop-variable : goal.decreases-loop-variable
decreases-loop-variable l = waiting l.order
