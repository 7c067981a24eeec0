use Rattle.p4_emit.specs.Printed.{egress_port_text}
use Rattle.p4_emit.proofs.Printing.{followed}
use Rattle.p4_emit.proofs.print.push_egress_port.Goals as goal

pub returns : goal.returns
unfolding egress_port_text
returns c = followed c.push.ensures c.push_value.ensures
