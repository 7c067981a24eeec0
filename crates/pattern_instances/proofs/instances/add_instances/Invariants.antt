use Rattle.std.proofs.Common.{◌-◌, length, take}
use Rattle.cocoon_syntax.specs.TreeOf.{design_of}
use Rattle.expr_terms.specs.Variables.{terms_at}
use Rattle.pattern_instances.specs.Found.{tuple_ids}
use Rattle.pattern_instances.proofs.Making.{Adds, said_after}
use Rattle.pattern_instances.proofs.instances.add_instances.Given as goal

abbrev pub invariant-loop-at : goal.invariant-loop-at
invariant-loop-at l =
    Adds (design_of l.checked) l.assumption l.fn.terms l.terms l.made.items
    (λ a. said_after (design_of l.checked) a l.fn.terms (terms_at l.fn.terms l.fn.made.items) (take l.at (tuple_ids l.tuples)))

abbrev pub decreases-loop-at : goal.decreases-loop-at
decreases-loop-at l = length l.tuples - l.at
