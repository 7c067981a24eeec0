use Rattle.std.proofs.Common.{◌∙◌, sym, ap}
use Rattle.std.specs.Prelude.{option_map}
use Rattle.cocoon_syntax.specs.TreeOf.{design_of, role_of}
use Rattle.cocoon_types.specs.RuleParts.{roles_of}
use Rattle.form_rules.proofs.RoleLists.{first-found, first-other}
use Rattle.form_rules.proofs.declared.first_declared.Goals as goal

pub returns-in-Some : goal.returns-in-Some
returns-in-Some c =
    first-found c.args.role.now c.args.other.now (roles_of (design_of c.args.design.now)) (role_of c.in-Some.first.now)
    (sym c.first_role.ensures ∙ ap (option_map (λ r. role_of r.now)) c.in-Some.is)

pub returns-in-None : goal.returns-in-None
returns-in-None c =
    c.first_role-in-None.ensures
    ∙ first-other c.args.role.now c.args.other.now (roles_of (design_of c.args.design.now)) (sym c.first_role.ensures ∙ ap (option_map (λ r. role_of r.now)) c.in-None.is)
