use Rattle.std.proofs.Common.{◌∙◌}
use Rattle.cocoon_syntax.specs.TreeOf.{design_of}
use Rattle.declarations.proofs.ReaderFacts.{role-numbers}
use Rattle.declarations.proofs.tables.Declarations.role_of.Goals as goal

pub returns : goal.returns
returns c = c.number.ensures ∙ role-numbers c.args.self.now.decls.roles (design_of c.args.design.now) c.requires.decls.roles c.args.name.now
