use Rattle.std.proofs.Common.{length, ◌-◌}
use Rattle.bv_terms.proofs.Choices.{Testing}
use Rattle.bv_terms.proofs.rows.row_test.Given as goal

abbrev pub invariant-loop-at : goal.invariant-loop-at
invariant-loop-at l = Testing l.fn.terms l.terms l.row l.args l.test l.at

abbrev pub decreases-loop-at : goal.decreases-loop-at
decreases-loop-at l = length l.args - l.at
