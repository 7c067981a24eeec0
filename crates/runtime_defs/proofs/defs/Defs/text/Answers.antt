use Rattle.cocoon_syntax.specs.TreeOf.{design_of}
use Rattle.runtime_defs.proofs.defs.Defs.text.Goals as goal

pub returns-clause-fits : goal.returns-clause-fits
returns-clause-fits c = c.definitions_fit.ensures (design_of c.args.checked.now) c.args.self.now c.keeps_rules.ensures.rules c.requires

pub returns-clause-binds : goal.returns-clause-binds
returns-clause-binds c = λ masked. c.tables_come_back.ensures (design_of c.args.checked.now) c.args.self.now c.keeps_rules.ensures.rules c.requires.places masked
