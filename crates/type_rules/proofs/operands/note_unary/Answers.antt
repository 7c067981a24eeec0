use Rattle.type_rules.proofs.OperandTests.{flip_notes, not_notes}
use Rattle.type_rules.proofs.operands.note_unary.Goals as goal

pub returns-in-Flip : goal.returns-in-Flip
returns-in-Flip c = rw c.in-Flip.is (λ s x h. flip_notes c.noting_laws.ensures s c.args.at x h.at h.sort c.is_truth.ensures c.note_if.ensures)

pub returns-in-Not : goal.returns-in-Not
returns-in-Not c = rw c.in-Not.is (λ s x h. not_notes c.noting_laws.ensures s c.args.at x h.at h.sort c.is_other.ensures c.note_if-in-Not.ensures)
