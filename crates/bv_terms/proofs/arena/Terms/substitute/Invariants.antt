use Rattle.bv_terms.proofs.Substituting.{Substituting}
use Rattle.bv_terms.proofs.arena.Terms.substitute.Given as goal

abbrev pub invariant-loop-at : goal.invariant-loop-at
invariant-loop-at l = Substituting l.fn.self l.self l.from l.to l.id l.needed.items l.at l.ids

abbrev pub decreases-loop-at : goal.decreases-loop-at
decreases-loop-at l = l.at
