use Rattle.text_lines.proofs.Printing.{followed}
use Rattle.failures.proofs.leading_lines.push_first.Goals as goal

pub returns : goal.returns
returns c =
    followed c.push.ensures (followed c.push-2.ensures (followed c.push_number.ensures (followed c.push-3.ensures
    (followed (rw c.role_text.ensures at c.push_bytes.ensures) (followed c.push-4.ensures (followed c.push_number-2.ensures c.push-5.ensures))))))
