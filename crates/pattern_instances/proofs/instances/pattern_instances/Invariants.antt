use Rattle.std.proofs.Common.{take}
use Rattle.bv_terms.specs.Arenas.{term_at}
use Rattle.cocoon_resolve.specs.Readers.{assumptions_to}
use Rattle.cocoon_syntax.specs.TreeOf.{design_of}
use Rattle.query_laws.specs.Tuples.{most_instances}
use Rattle.pattern_instances.proofs.Making.{IsMade, said}
use Rattle.pattern_instances.proofs.instances.pattern_instances.Given as goal

abbrev pub invariant-loop-assumption : goal.invariant-loop-assumption
invariant-loop-assumption l =
    IsMade l.fn.terms l.terms l.made.items (take most_instances (said (design_of l.checked) (term_at l.fn.terms l.fn.goal) (take l.assumption (assumptions_to l.level (design_of l.checked)))))
