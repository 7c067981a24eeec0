use Rattle.cocoon_syntax.specs.TreeOf.{name_of}
use Rattle.type_rules.proofs.StmtTests.{havoc_notes}
use Rattle.type_rules.proofs.bodies.note_havoc.Goals as goal

pub returns : goal.returns
returns c = λ s. havoc_notes c.noting_laws.ensures s c.args.ended c.args.at (name_of c.args.name.now) c.args.width c.note_if.ensures c.note_width.ensures
