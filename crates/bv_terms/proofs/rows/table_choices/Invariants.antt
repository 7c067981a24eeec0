use Rattle.bv_terms.proofs.Choices.{Choosing}
use Rattle.bv_terms.proofs.rows.table_choices.Given as goal

abbrev pub invariant-loop-at : goal.invariant-loop-at
invariant-loop-at l = Choosing l.fn.terms l.terms l.table l.args l.choices l.at

abbrev pub decreases-loop-at : goal.decreases-loop-at
decreases-loop-at l = l.at
