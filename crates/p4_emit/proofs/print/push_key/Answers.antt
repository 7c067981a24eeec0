use Rattle.p4_emit.specs.Printed.{key_text}
use Rattle.p4_emit.proofs.Printing.{followed}
use Rattle.p4_emit.proofs.print.push_key.Goals as goal

pub returns : goal.returns
unfolding key_text
returns c = followed c.push.ensures (followed c.push_meta.ensures (rw c.kind_text.ensures at c.push-2.ensures))
