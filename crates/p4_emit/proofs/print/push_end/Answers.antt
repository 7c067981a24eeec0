use Rattle.p4_emit.specs.Printed.{end_text}
use Rattle.p4_emit.proofs.Printing.{followed}
use Rattle.p4_emit.proofs.print.push_end.Goals as goal

pub returns : goal.returns
unfolding end_text
returns c = followed c.new_line.ensures c.push.ensures
