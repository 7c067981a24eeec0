use Rattle.std.proofs.Common.{sym, ◌∙◌}
use Rattle.type_rules.proofs.StmtTests.{set_notes}
use Rattle.type_rules.proofs.bodies.note_set_field.Goals as goal

pub returns-in-Some : goal.returns-in-Some
returns-in-Some c = λ s h f x k i.
    set_notes c.noting_laws.ensures s c.args.ended c.args.at c.in-Some.width h f x (sym k ∙ c.in-Some.is) i.at i.sort c.is_other.ensures c.note_if.ensures c.note_if-in-Some.ensures
