use Rattle.cocoon_num.specs.Tree.{Role}
use Rattle.cocoon_num.specs.Names.{same_name}
use Rattle.cocoon_syntax.specs.TreeOf.{design_of, role_of}
use Rattle.cocoon_types.specs.Rules.{guard_form}
use Rattle.form_rules.specs.Guards.{other_guard}
use Rattle.form_rules.proofs.Joined.{filtered-noted}
use Rattle.form_rules.proofs.guards.note_declared.Goals as goal

pub loop-role-init : goal.loop-role-init
loop-role-init c = c.among_laws.ensures.none guard_form c.args.noted.now

pub loop-role-preserved : goal.loop-role-preserved
loop-role-preserved c =
    filtered-noted c.among_laws.ensures guard_form (other_guard (design_of c.args.design.now) c.args.form (role_of c.args.first.now)) (λ (r : Role). same_name c.args.name.now r.name.text) (λ r. role_of r.now) c.args.roles.now c.loop-role.role-index c.role-item.result
    c.args.noted.now c.loop-role.noted c.note_role.new.noted c.loop-role-test.true c.role-item.is c.loop-role.invariant c.note_role.ensures
