use Rattle.std.proofs.Common.{◌≡◌, map, take}
use Rattle.cnf_core.specs.Literals.{opposite}
use Rattle.bit_blast.specs.Emitted.{numbers}
use Rattle.bit_blast.proofs.joining.flipped.Given as goal

abbrev pub invariant-loop-bit : goal.invariant-loop-bit
invariant-loop-bit l = numbers l.others.items ≡ map opposite (numbers (take l.bit-index l.bits))
