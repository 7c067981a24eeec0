use Rattle.cocoon_syntax.specs.TreeOf.{switch_of}
use Rattle.type_rules.proofs.DeclParts.{switch_in}
use Rattle.type_rules.proofs.decls.note_switch.Goals as goal

pub returns : goal.returns
returns c = λ w d. switch_in c.noting_laws.ensures w d (switch_of c.args.switch.now) c.note_if.ensures
