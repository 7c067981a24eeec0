use Rattle.p4_emit.specs.Printed.{member_text}
use Rattle.p4_emit.proofs.Printing.{followed}
use Rattle.p4_emit.proofs.print.push_member.Goals as goal

pub returns : goal.returns
unfolding member_text
returns c = followed c.push.ensures (followed c.push_name.ensures (followed c.push-2.ensures (followed c.push_name-2.ensures c.push-3.ensures)))
