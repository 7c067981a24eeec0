use Rattle.std.proofs.Common.{filter, map, take}
use Rattle.bv_terms.specs.Arenas.{term_at}
use Rattle.bv_terms.specs.Walks.{AreNumbersOf, is_application}
use Rattle.bv_terms.proofs.walk.applications.Given as goal

abbrev pub invariant-loop-term : goal.invariant-loop-term
invariant-loop-term l = AreNumbersOf l.terms (filter is_application (map (term_at l.terms) (take l.term-index l.term-items))) l.applications.items
