use Rattle.std.proofs.Common.{◌-◌, length, take}
use Rattle.pattern_instances.specs.Found.{HasTuples, all_found, distinct_ids, found_patterns}
use Rattle.pattern_instances.proofs.tuples.first_tuples.Given as goal

abbrev pub invariant-loop-at : goal.invariant-loop-at
invariant-loop-at l = HasTuples l.found (distinct_ids (all_found l.terms (found_patterns l.patterns) (take l.at l.applications)))

abbrev pub decreases-loop-at : goal.decreases-loop-at
decreases-loop-at l = length l.applications - l.at
