use Rattle.bv_terms.proofs.Copies.{Copying}
use Rattle.bv_terms.proofs.copying.copy.Given as goal

abbrev pub invariant-loop-at : goal.invariant-loop-at
invariant-loop-at l = Copying l.from l.fn.to l.to l.id l.needed.items l.at l.ids l.inputs.items

abbrev pub decreases-loop-at : goal.decreases-loop-at
decreases-loop-at l = l.at
