use Rattle.std.proofs.Common.{◌∙◌, sym, ap}
use Rattle.std.specs.Prelude.{option_and_then}
use Rattle.cocoon_syntax.specs.TreeOf.{design_of}
use Rattle.cocoon_types.specs.Design.{as_role}
use Rattle.declarations.specs.Declares.{fetch}
use Rattle.declarations.proofs.ReaderFacts.{first-read, first-none}
use Rattle.declarations.proofs.tables.Declarations.first_role.Goals as goal

pub returns-in_err-role_of : goal.returns-in_err-role_of
returns-in_err-role_of c = rw c.from_residual.ensures (sym (first-none c.args.self.now.decls.roles (design_of c.args.design.now) c.requires.decls.roles c.args.name.now (sym c.role_of.ensures ∙ c.in_err-role_of.was)))

pub returns-in_err-first : goal.returns-in_err-first
returns-in_err-first c = rw c.from_residual-in_err-first.ensures (ap (option_and_then (fetch as_role (design_of c.args.design.now))) (sym c.in_err-first.was ∙ c.first.ensures) ∙ first-read c.args.self.now.decls.roles (design_of c.args.design.now) c.requires.decls.roles c.args.name.now c.in_ok-role_of.field-0 (sym c.role_of.ensures ∙ c.in_ok-role_of.was))

pub returns : goal.returns
returns c = c.role_declared_at.ensures ∙ ap (option_and_then (fetch as_role (design_of c.args.design.now))) (sym c.in_ok-first.was ∙ c.first.ensures) ∙ first-read c.args.self.now.decls.roles (design_of c.args.design.now) c.requires.decls.roles c.args.name.now c.in_ok-role_of.field-0 (sym c.role_of.ensures ∙ c.in_ok-role_of.was)
