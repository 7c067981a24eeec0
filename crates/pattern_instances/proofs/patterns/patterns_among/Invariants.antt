use Rattle.std.proofs.Common.{◌≡◌, filter_map, map, take}
use Rattle.bv_terms.specs.Arenas.{term_at}
use Rattle.query_laws.specs.Patterns.{pattern_of}
use Rattle.pattern_instances.specs.Found.{found_patterns}
use Rattle.pattern_instances.proofs.patterns.patterns_among.Given as goal

abbrev pub invariant-loop-term : goal.invariant-loop-term
invariant-loop-term l = found_patterns l.patterns.items ≡ filter_map (pattern_of l.count) (map (term_at l.terms) (take l.term-index l.among))
