use Rattle.type_rules.proofs.OperandTests.{field_notes}
use Rattle.type_rules.proofs.operands.note_field.Goals as goal

pub returns : goal.returns
returns c = λ s h f e. field_notes c.noting_laws.ensures s c.args.at h f e c.note_if.ensures
