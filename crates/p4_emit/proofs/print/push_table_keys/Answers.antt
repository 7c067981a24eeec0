use Rattle.p4_emit.specs.Printed.{keys_text}
use Rattle.p4_emit.proofs.Printing.{followed}
use Rattle.p4_emit.proofs.print.push_table_keys.Goals as goal

pub returns : goal.returns
unfolding keys_text
returns c = followed c.push.ensures (followed c.push_number.ensures (followed c.push-2.ensures (followed (rw c.items.ensures at c.push_keys.ensures) c.push-3.ensures)))
