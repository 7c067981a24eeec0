use Rattle.text_lines.proofs.Printing.{followed}
use Rattle.generator.proofs.design.push_ingress.Goals as goal

pub returns : goal.returns
returns c =
    followed c.push.ensures (followed c.push-2.ensures (followed c.push-3.ensures (followed c.push-4.ensures (followed c.push-5.ensures (followed c.push-6.ensures (followed c.push-7.ensures (followed c.push-8.ensures c.push-9.ensures)))))))
