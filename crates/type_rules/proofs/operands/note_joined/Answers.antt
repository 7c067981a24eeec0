use Rattle.type_rules.proofs.OperandTests.{joined_notes}
use Rattle.type_rules.proofs.operands.note_joined.Goals as goal

pub returns : goal.returns
returns c = λ s op x y o h k.
    joined_notes c.noting_laws.ensures s c.args.at op x y o h.at h.sort k.at k.sort c.too_wide.ensures c.both_typed-typed.ensures c.is_truth.ensures c.is_truth-2.ensures
    c.note_if.ensures c.note_where.ensures c.note_where-2.ensures
