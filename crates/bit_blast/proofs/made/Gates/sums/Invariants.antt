use Rattle.std.proofs.Common.{drop}
use Rattle.bit_blast.specs.Gates.{sums}
use Rattle.bit_blast.specs.Emitted.{Continues, numbers}
use Rattle.bit_blast.proofs.made.Gates.sums.Given as goal

abbrev pub invariant-loop-at : goal.invariant-loop-at
invariant-loop-at l =
    Continues l.fn.self l.self (sums l.fn.self.next l.fn.first.number (numbers l.a) (numbers l.b))
    (sums l.self.next l.below.number (numbers (drop l.at l.a)) (numbers (drop l.at l.b))) (numbers l.bits.items)
