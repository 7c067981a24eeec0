use Rattle.p4_emit.specs.Printed.{group_text}
use Rattle.p4_emit.proofs.Printing.{followed}
use Rattle.p4_emit.proofs.print.push_group.Goals as goal

pub returns : goal.returns
unfolding group_text
returns c = followed c.push.ensures c.push_value.ensures
