use Rattle.std.proofs.Common.{refl, ap}
use Rattle.bit_blast.specs.Emitted.{numbers}
use Rattle.bit_blast.proofs.BitSteps.{start-at, numbers-push, sums-step, sums-whole}
use Rattle.bit_blast.proofs.made.Gates.sums.Goals as goal

pub loop-at-init : goal.loop-at-init
loop-at-init c = start-at c.args.self.now _ _ _ refl (ap numbers c.in_ok-bits.ensures.items)

pub loop-at-preserved : goal.loop-at-preserved
loop-at-preserved c =
    rw (numbers-push c.loop-at.bits.items c.push.new.self.items c.in_ok-sum.sum c.in_ok-push.ensures.items)
    (sums-step c.args.self.now c.loop-at.self c.sum_bit.new.self _ c.args.a.now c.args.b.now c.loop-at.at c.index-a-at.result c.index-b-at.result
    c.loop-at.below.number c.in_ok-sum.sum.number c.in_ok-sum.carry.number (numbers c.loop-at.bits.items) c.loop-at-test.true c.requires c.index-a-at.is c.index-b-at.is
    c.loop-at.invariant c.in_ok-sum.ensures)

pub returns : goal.returns
returns c =
    sums-whole c.args.self.now c.loop-at.self _ c.args.a.now c.args.b.now c.loop-at.at c.loop-at.below.number (numbers c.loop-at.bits.items) c.loop-at-test.false c.loop-at.invariant
