use Rattle.bv_terms.proofs.Replaced.{Replacing}
use Rattle.bv_terms.proofs.replacing.with_defs.Given as goal

abbrev pub invariant-loop-at : goal.invariant-loop-at
invariant-loop-at l = Replacing l.tables l.fn.terms l.terms l.goal l.needed.items l.at l.ids

abbrev pub decreases-loop-at : goal.decreases-loop-at
decreases-loop-at l = l.at
