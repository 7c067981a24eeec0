use Rattle.std.specs.Prelude.{reverse}
use Rattle.std.proofs.Common.{[]}
use Rattle.bv_terms.specs.Arenas.{term_at}
use Rattle.bv_terms.specs.Walks.{walk}
use Rattle.bv_terms.proofs.Walking.{Walking, entered_size}
use Rattle.bv_terms.proofs.walk.distinct.Given as goal

abbrev pub invariant-loop-at : goal.invariant-loop-at
invariant-loop-at l = Walking l.terms (walk (term_at l.terms l.term) []) l.walk.order.items l.walk.left (reverse l.walk.entered.items)

abbrev pub decreases-loop-at : goal.decreases-loop-at
decreases-loop-at l = entered_size l.terms l.walk.entered.items
