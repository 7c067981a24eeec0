use Rattle.std.proofs.Common.{◌∙◌, ap, sym}
use Rattle.cocoon_syntax.specs.TreeOf.{design_of}
use Rattle.declarations.specs.Declares.{role_number}
use Rattle.declarations.proofs.ReaderFacts.{role-none}
use Rattle.step_cases.proofs.Locations.{acts}
use Rattle.step_cases.proofs.lines.acting_role.Goals as goal

pub returns-in_err-number : goal.returns-in_err-number
returns-in_err-number c =
    let d = design_of c.args.checked.now in
    rw c.from_residual.ensures (ap (acts c.args.name.now c.args.values.now)
    (role-none c.names-names.result.now.decls.roles d c.names-names.ensures.decls.roles c.args.level c.args.name.now
    (ap (λ x. role_number (design_of x) c.args.name.now) (sym c.design-design.ensures.is) ∙ sym c.role_of.ensures ∙ c.in_err-number.was)))
