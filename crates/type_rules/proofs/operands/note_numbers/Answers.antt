use Rattle.type_rules.proofs.OperandTests.{numbers_notes}
use Rattle.type_rules.proofs.operands.note_numbers.Goals as goal

pub returns : goal.returns
returns c = λ s op x y o h k.
    numbers_notes c.noting_laws.ensures s c.args.at op x y o h.sort k.sort c.both_typed-typed.ensures c.are_like.ensures c.note_where.ensures
