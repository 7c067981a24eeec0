use Rattle.std.proofs.Common.{◌≡◌, map, take}
use Rattle.cnf_core.specs.Satisfying.{makes_true}
use Rattle.bit_blast.specs.Blasting.{InputRow}
use Rattle.bit_blast.specs.Readings.{number_read}
use Rattle.discharge.proofs.asking.values.Given as goal

abbrev pub invariant-loop-input : goal.invariant-loop-input
invariant-loop-input l = l.values.items ≡ map (λ (row : InputRow). number_read (makes_true l.assignment) row.bits) (take l.input l.inputs)
