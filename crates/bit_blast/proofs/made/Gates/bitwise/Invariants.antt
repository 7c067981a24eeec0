use Rattle.std.proofs.Common.{drop}
use Rattle.bit_blast.specs.Gates.{bitwise}
use Rattle.bit_blast.specs.Emitted.{Continues, gate_of, numbers}
use Rattle.bit_blast.proofs.made.Gates.bitwise.Given as goal

abbrev pub invariant-loop-at : goal.invariant-loop-at
invariant-loop-at l =
    Continues l.fn.self l.self (bitwise (gate_of l.gate) l.fn.self.next (numbers l.a) (numbers l.b))
    (bitwise (gate_of l.gate) l.self.next (numbers (drop l.at l.a)) (numbers (drop l.at l.b))) (numbers l.bits.items)
