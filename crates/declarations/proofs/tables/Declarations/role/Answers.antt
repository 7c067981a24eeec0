use Rattle.std.proofs.Common.{◌∙◌, sym, ap}
use Rattle.std.specs.Prelude.{option_and_then}
use Rattle.cocoon_syntax.specs.TreeOf.{design_of}
use Rattle.cocoon_types.specs.Design.{as_role}
use Rattle.declarations.specs.Declares.{fetch}
use Rattle.declarations.proofs.ReaderFacts.{role-levels, role-latest}
use Rattle.declarations.proofs.tables.Declarations.role.Goals as goal

pub latest-requires : goal.latest-requires
latest-requires c = role-levels c.args.self.now.decls.roles (design_of c.args.design.now) c.requires.tables.decls.roles c.requires.known.0 c.args.role c.requires.known.1

pub returns-in_err-latest : goal.returns-in_err-latest
returns-in_err-latest c = λ name e. rw c.from_residual.ensures (ap (option_and_then (fetch as_role (design_of c.args.design.now))) (sym c.in_err-latest.was ∙ c.latest.ensures) ∙ role-latest c.args.self.now.decls.roles (design_of c.args.design.now) c.requires.tables.decls.roles c.args.level name c.args.role e)

pub returns : goal.returns
returns c = λ name e. c.role_declared_at.ensures ∙ ap (option_and_then (fetch as_role (design_of c.args.design.now))) (sym c.in_ok-latest.was ∙ c.latest.ensures) ∙ role-latest c.args.self.now.decls.roles (design_of c.args.design.now) c.requires.tables.decls.roles c.args.level name c.args.role e
