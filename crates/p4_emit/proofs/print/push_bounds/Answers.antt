use Rattle.p4_emit.proofs.Printing.{followed}
use Rattle.p4_emit.proofs.print.push_bounds.Goals as goal

pub returns : goal.returns
returns c = followed c.push.ensures (followed c.push_width.ensures (followed c.push-2.ensures (followed c.push_width-2.ensures c.push-3.ensures)))
