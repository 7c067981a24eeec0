use Rattle.std.proofs.Common.{subst}
use Rattle.std.specs.Prelude.{flat_map}
use Rattle.cocoon_num.specs.Tree.{Design}
use Rattle.cocoon_syntax.specs.TreeOf.{design_of, switch_of}
use Rattle.cocoon_types.specs.FormRules.{declared_as}
use Rattle.cocoon_types.specs.Noting.{Notes}
use Rattle.cocoon_types.specs.Rules.{not_switch_form}
use Rattle.cocoon_types.specs.RuleParts.{roles_of}
use Rattle.cocoon_types.specs.Among.{among}
use Rattle.form_rules.specs.Parts.{not_two_ports}
use Rattle.form_rules.proofs.RoleLists.{switch_some, switch_none, two_noted}
use Rattle.form_rules.proofs.switches.note_not_switch_form.Goals as goal

pub returns-in-Some : goal.returns-in-Some
returns-in-Some c =
    let d : Design = design_of c.args.design.now in
    subst (λ l. Notes (among not_switch_form (flat_map not_two_ports l)) c.args.noted.now c.note_declared-in-Some.new.noted) (switch_some d (switch_of c.in-Some.switch.now) c.in-Some.ensures)
    (two_noted c.among_laws.ensures not_switch_form not_two_ports (declared_as c.in-Some.switch.now.into.text (roles_of d)) (declared_as c.in-Some.switch.now.out.text (roles_of d))
    c.args.noted.now c.note_declared.new.noted c.note_declared-in-Some.new.noted
    (subst (λ x. Notes (among not_switch_form (flat_map not_two_ports (declared_as x (roles_of d)))) c.args.noted.now c.note_declared.new.noted) c.bytes.ensures
    (subst (λ rs. Notes (among not_switch_form (flat_map not_two_ports (declared_as c.bytes.result.now rs))) c.args.noted.now c.note_declared.new.noted) c.requires.all c.note_declared.ensures))
    (subst (λ x. Notes (among not_switch_form (flat_map not_two_ports (declared_as x (roles_of d)))) c.note_declared.new.noted c.note_declared-in-Some.new.noted) c.bytes-in-Some.ensures
    (subst (λ rs. Notes (among not_switch_form (flat_map not_two_ports (declared_as c.bytes-in-Some.result.now rs))) c.note_declared.new.noted c.note_declared-in-Some.new.noted) c.requires.all c.note_declared-in-Some.ensures)))

pub returns-in-None : goal.returns-in-None
returns-in-None c =
    subst (λ l. Notes (among not_switch_form (flat_map not_two_ports l)) c.args.noted.now c.args.noted.now) (switch_none (design_of c.args.design.now) c.in-None.ensures)
    (c.among_laws.ensures.none not_switch_form c.args.noted.now)
