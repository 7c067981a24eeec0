use Rattle.type_rules.proofs.OperandTests.{pick_notes}
use Rattle.type_rules.proofs.operands.note_pick.Goals as goal

pub returns : goal.returns
returns c = λ s z x y g h k.
    pick_notes c.noting_laws.ensures s c.args.at z x y g.at g.sort h.at h.sort k.sort c.all_typed-all.ensures c.are_same.ensures c.both_typed-typed.ensures c.is_other.ensures
    c.note_where.ensures c.note_where-2.ensures
