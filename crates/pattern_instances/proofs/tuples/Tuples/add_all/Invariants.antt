use Rattle.std.proofs.Common.{ℕ, List, filter_map, fold, map, take}
use Rattle.pattern_instances.specs.Found.{HasTuples, found_pattern, tuple_found, with_ids}
use Rattle.pattern_instances.proofs.tuples.Tuples.add_all.Given as goal

abbrev pub invariant-loop-pattern : goal.invariant-loop-pattern
invariant-loop-pattern l =
    (tuples : List (List ℕ)) → HasTuples l.fn.self tuples → HasTuples l.self (fold with_ids tuples (filter_map (tuple_found l.terms l.application) (map found_pattern (take l.pattern-index l.patterns))))
