use Rattle.std.proofs.Common.{drop, []}
use Rattle.bit_blast.specs.Gates.{equals_from}
use Rattle.bit_blast.specs.Emitted.{Continues, numbers}
use Rattle.bit_blast.proofs.made.Gates.equals_from.Given as goal

abbrev pub invariant-loop-at : goal.invariant-loop-at
invariant-loop-at l =
    Continues l.fn.self l.self (equals_from l.fn.self.next l.fn.first.number (numbers l.a) (numbers l.b))
    (equals_from l.self.next l.chain.number (numbers (drop l.at l.a)) (numbers (drop l.at l.b))) []
