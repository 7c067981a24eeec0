use Rattle.std.proofs.Common.{refl}
use Rattle.bit_blast.proofs.BitSteps.{start-at, equals-step, equals-whole}
use Rattle.bit_blast.proofs.made.Gates.equals_from.Goals as goal

pub loop-at-init : goal.loop-at-init
loop-at-init c = start-at c.args.self.now _ _ _ refl refl

pub loop-at-preserved : goal.loop-at-preserved
loop-at-preserved c =
    equals-step c.args.self.now c.loop-at.self c.equal_bit.new.self _ c.args.a.now c.args.b.now c.loop-at.at c.index-a-at.result c.index-b-at.result
    c.loop-at.chain.number c.in_ok-chain.chain.number c.loop-at-test.true c.requires c.index-a-at.is c.index-b-at.is c.loop-at.invariant c.in_ok-chain.ensures

pub returns : goal.returns
returns c = equals-whole c.args.self.now c.loop-at.self _ c.args.a.now c.args.b.now c.loop-at.at c.loop-at.chain.number c.loop-at-test.false c.loop-at.invariant
