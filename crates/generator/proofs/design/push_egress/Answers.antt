use Rattle.text_lines.proofs.Printing.{followed}
use Rattle.generator.proofs.design.push_egress.Goals as goal

pub returns : goal.returns
returns c =
    followed c.push.ensures (followed c.push-2.ensures (followed c.push-3.ensures (followed c.push-4.ensures c.push-5.ensures)))
