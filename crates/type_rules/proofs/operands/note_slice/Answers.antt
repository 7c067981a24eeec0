use Rattle.type_rules.proofs.OperandTests.{slice_notes}
use Rattle.type_rules.proofs.operands.note_slice.Goals as goal

pub returns : goal.returns
returns c = λ s x h.
    slice_notes c.noting_laws.ensures s c.args.at c.args.high c.args.low x h.at h.sort c.is_truth.ensures c.bad_bounds.ensures c.note_if.ensures c.note_if-2.ensures
