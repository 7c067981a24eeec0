use Rattle.std.proofs.Common.{◌-◌, length}
use Rattle.bit_blast.specs.Emitted.{numbers}
use Rattle.bit_blast.proofs.BitSteps.{Freshening}
use Rattle.bit_blast.proofs.made.Gates.input.Given as goal

abbrev pub invariant-loop-bits : goal.invariant-loop-bits
invariant-loop-bits l = Freshening l.fn.self l.self l.width (length l.bits.items) (numbers l.bits.items)

abbrev pub decreases-loop-bits : goal.decreases-loop-bits
decreases-loop-bits l = l.width - length l.bits.items
