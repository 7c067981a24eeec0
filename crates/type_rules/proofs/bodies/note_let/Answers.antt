use Rattle.cocoon_syntax.specs.TreeOf.{name_of}
use Rattle.type_rules.proofs.StmtTests.{let_notes}
use Rattle.type_rules.proofs.bodies.note_let.Goals as goal

pub returns : goal.returns
returns c = λ s x h.
    let_notes c.noting_laws.ensures s c.args.ended c.args.at (name_of c.args.name.now) c.args.width x h.at h.sort c.is_other.ensures
    c.note_if.ensures c.note_width.ensures c.note_if-2.ensures
