use Rattle.std.proofs.Common.{refl}
use Rattle.bit_blast.proofs.BitSteps.{start-at, less-step, less-whole}
use Rattle.bit_blast.proofs.made.Gates.less_from.Goals as goal

pub loop-at-init : goal.loop-at-init
loop-at-init c = start-at c.args.self.now _ _ _ refl refl

pub loop-at-preserved : goal.loop-at-preserved
loop-at-preserved c =
    less-step c.args.self.now c.loop-at.self c.less_bit.new.self _ c.args.a.now c.args.b.now c.loop-at.at c.index-a-at.result c.index-b-at.result
    c.loop-at.below.number c.in_ok-below.below.number c.loop-at-test.true c.requires c.index-a-at.is c.index-b-at.is c.loop-at.invariant c.in_ok-below.ensures

pub returns : goal.returns
returns c = less-whole c.args.self.now c.loop-at.self _ c.args.a.now c.args.b.now c.loop-at.at c.loop-at.below.number c.loop-at-test.false c.loop-at.invariant
