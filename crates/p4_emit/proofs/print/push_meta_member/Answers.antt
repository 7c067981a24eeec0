use Rattle.p4_emit.specs.Printed.{meta_member_text}
use Rattle.p4_emit.proofs.Printing.{followed}
use Rattle.p4_emit.proofs.print.push_meta_member.Goals as goal

pub returns : goal.returns
unfolding meta_member_text
returns c = followed c.push.ensures (followed c.push_width.ensures (followed c.push-2.ensures (followed c.push_name.ensures c.push-3.ensures)))
