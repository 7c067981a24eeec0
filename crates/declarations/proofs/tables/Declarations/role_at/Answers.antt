use Rattle.std.proofs.Common.{◌∙◌, sym}
use Rattle.cocoon_syntax.specs.TreeOf.{design_of}
use Rattle.declarations.proofs.ReaderFacts.{role-none}
use Rattle.declarations.proofs.tables.Declarations.role_at.Goals as goal

pub returns-in_err-role_of : goal.returns-in_err-role_of
returns-in_err-role_of c = rw c.from_residual.ensures (sym (role-none c.args.self.now.decls.roles (design_of c.args.design.now) c.requires.decls.roles c.args.level c.args.name.now (sym c.role_of.ensures ∙ c.in_err-role_of.was)))
