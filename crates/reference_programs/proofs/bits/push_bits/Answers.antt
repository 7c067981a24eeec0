use Rattle.reference_programs.proofs.Packing as packing
use Rattle.reference_programs.proofs.bits.push_bits.Goals as goal

pub loop-done-preserved : goal.loop-done-preserved
loop-done-preserved c = packing.push_next _ _ _ _ _ _ c.loop-done-test.true c.in_ok-push.ensures.items c.loop-done.invariant
