use Rattle.std.proofs.Common.{refl, ap}
use Rattle.bit_blast.specs.Emitted.{gate_of, numbers}
use Rattle.bit_blast.proofs.BitSteps.{start-at, numbers-push, bitwise-step, bitwise-whole}
use Rattle.bit_blast.proofs.made.Gates.bitwise.Goals as goal

pub loop-at-init : goal.loop-at-init
loop-at-init c = start-at c.args.self.now _ _ _ refl (ap numbers c.in_ok-bits.ensures.items)

pub loop-at-preserved : goal.loop-at-preserved
loop-at-preserved c =
    rw (numbers-push c.loop-at.bits.items c.push.new.self.items c.in_ok-bit.bit c.in_ok-push.ensures.items)
    (bitwise-step (gate_of c.args.gate) c.args.self.now c.loop-at.self c.gate.new.self _ c.args.a.now c.args.b.now c.loop-at.at c.index-a-at.result c.index-b-at.result
    c.in_ok-bit.bit.number (numbers c.loop-at.bits.items) c.loop-at-test.true c.requires c.index-a-at.is c.index-b-at.is c.loop-at.invariant c.in_ok-bit.ensures)

pub returns : goal.returns
returns c =
    bitwise-whole (gate_of c.args.gate) c.args.self.now c.loop-at.self _ c.args.a.now c.args.b.now c.loop-at.at (numbers c.loop-at.bits.items) c.loop-at-test.false c.loop-at.invariant
