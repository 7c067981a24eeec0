use Rattle.std.proofs.Common.{◌++◌, subst, List}
use Rattle.std.specs.Prelude.{flat_map}
use Rattle.cocoon_num.specs.Tree.{Design, Role}
use Rattle.cocoon_syntax.specs.TreeOf.{design_of, role_of}
use Rattle.cocoon_types.specs.FormRules.{declared_as}
use Rattle.cocoon_types.specs.Noting.{Notes}
use Rattle.cocoon_types.specs.RuleParts.{roles_of}
use Rattle.cocoon_types.specs.Rules.{guard_form}
use Rattle.cocoon_types.specs.Among.{among}
use Rattle.form_rules.specs.Guards.{other_guard}
use Rattle.form_rules.proofs.GuardForms.{guards_some}
use Rattle.form_rules.proofs.RoleLists.{two_noted}
use Rattle.form_rules.proofs.guards.note_guards.Goals as goal

pub returns-in-Some : goal.returns-in-Some
returns-in-Some c =
    let d : Design = design_of c.args.design.now in
    let first : Role = role_of c.in-Some.first.now in
    let ones : List Role = declared_as c.args.role.now (roles_of d) in
    let others : List Role = declared_as c.args.other.now (roles_of d) in
    subst (λ l. Notes (among guard_form l) c.args.noted.now c.note_declared-in-Some.new.noted) (guards_some d c.args.form (ones ++ others) first c.in-Some.ensures)
    (two_noted c.among_laws.ensures guard_form (other_guard d c.args.form first) ones others c.args.noted.now c.note_declared.new.noted c.note_declared-in-Some.new.noted
    (subst (λ rs. Notes (among guard_form (flat_map (other_guard d c.args.form first) (declared_as c.args.role.now rs))) c.args.noted.now c.note_declared.new.noted) c.requires.all c.note_declared.ensures)
    (subst (λ rs. Notes (among guard_form (flat_map (other_guard d c.args.form first) (declared_as c.args.other.now rs))) c.note_declared.new.noted c.note_declared-in-Some.new.noted) c.requires.all c.note_declared-in-Some.ensures))
