use Rattle.type_rules.proofs.StmtTests.{havoc_field_notes}
use Rattle.type_rules.proofs.bodies.note_havoc_field.Goals as goal

pub returns : goal.returns
returns c = λ s h f. havoc_field_notes c.noting_laws.ensures s c.args.ended c.args.at h f c.note_if.ensures
