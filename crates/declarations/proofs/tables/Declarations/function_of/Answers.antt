use Rattle.std.proofs.Common.{◌∙◌}
use Rattle.cocoon_syntax.specs.TreeOf.{design_of}
use Rattle.declarations.proofs.ReaderFacts.{function-number}
use Rattle.declarations.proofs.tables.Declarations.function_of.Goals as goal

pub returns : goal.returns
returns c = c.number.ensures ∙ function-number c.args.self.now.decls.functions (design_of c.args.design.now) c.requires.decls.functions c.args.name.now
