use Rattle.bv_terms.proofs.NeededFacts.{NeededFrom, bound}
use Rattle.bv_terms.proofs.arena.Terms.needed.Given as goal

abbrev pub invariant-loop-next : goal.invariant-loop-next
invariant-loop-next l = NeededFrom l.self l.id l.ids.items l.waiting

abbrev pub decreases-loop-next : goal.decreases-loop-next
decreases-loop-next l = bound l.ids.items l.id
