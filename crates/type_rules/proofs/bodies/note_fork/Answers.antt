use Rattle.cocoon_syntax.specs.TreeOf.{name_of}
use Rattle.type_rules.proofs.StmtTests.{fork_notes}
use Rattle.type_rules.proofs.bodies.note_fork.Goals as goal

pub returns : goal.returns
returns c = λ s x b h.
    fork_notes c.noting_laws.ensures s c.args.ended c.args.at (name_of c.args.name.now) c.args.width x b h.at h.sort c.is_other.ensures
    c.note_if.ensures c.note_width.ensures c.note_if-2.ensures
