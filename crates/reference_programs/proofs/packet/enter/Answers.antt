use Rattle.reference_programs.proofs.Entering.{all_entered}
use Rattle.reference_programs.proofs.packet.enter.Goals as goal

pub returns-clause-fits : goal.returns-clause-fits
returns-clause-fits c = rw c.from.ensures (all_entered c.args.layout.now c.loop-widths.packet.items c.args.bytes.now _ _ c.loop-widths-test.false c.loop-widths.invariant.so_far)
