use Rattle.bv_terms.proofs.Evaluating.{Evaluating}
use Rattle.bv_terms.proofs.arena.Terms.eval.Given as goal

abbrev pub invariant-loop-at : goal.invariant-loop-at
invariant-loop-at l = Evaluating l.self l.env l.id l.ids.items l.at l.values

abbrev pub decreases-loop-at : goal.decreases-loop-at
decreases-loop-at l = l.at
