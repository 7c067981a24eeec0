use Rattle.p4_emit.specs.Printed.{else_text}
use Rattle.p4_emit.proofs.Printing.{followed}
use Rattle.p4_emit.proofs.print.push_else.Goals as goal

pub returns : goal.returns
unfolding else_text
returns c = followed c.new_line.ensures c.push.ensures
