use Rattle.std.proofs.Common.{drop, []}
use Rattle.bit_blast.specs.Gates.{less_from}
use Rattle.bit_blast.specs.Emitted.{Continues, numbers}
use Rattle.bit_blast.proofs.made.Gates.less_from.Given as goal

abbrev pub invariant-loop-at : goal.invariant-loop-at
invariant-loop-at l =
    Continues l.fn.self l.self (less_from l.fn.self.next l.fn.first.number (numbers l.a) (numbers l.b))
    (less_from l.self.next l.below.number (numbers (drop l.at l.a)) (numbers (drop l.at l.b))) []
