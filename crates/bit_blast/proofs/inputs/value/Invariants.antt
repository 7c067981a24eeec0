use Rattle.cnf_core.specs.Satisfying.{makes_true}
use Rattle.bit_blast.proofs.InputFacts.{Valuing}
use Rattle.bit_blast.proofs.inputs.value.Given as goal

abbrev pub invariant-loop-at : goal.invariant-loop-at
invariant-loop-at l = Valuing (makes_true l.assignment) l.bits l.at l.value

abbrev pub decreases-loop-at : goal.decreases-loop-at
decreases-loop-at l = l.at
