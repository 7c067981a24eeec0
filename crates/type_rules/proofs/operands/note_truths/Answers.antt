use Rattle.type_rules.proofs.OperandTests.{truths_notes}
use Rattle.type_rules.proofs.operands.note_truths.Goals as goal

pub returns : goal.returns
returns c = λ s op x y o h k.
    truths_notes c.noting_laws.ensures s c.args.at op x y o h.at h.sort k.at k.sort c.both_typed-typed.ensures c.is_other.ensures c.is_other-2.ensures
    c.note_where.ensures c.note_where-2.ensures
