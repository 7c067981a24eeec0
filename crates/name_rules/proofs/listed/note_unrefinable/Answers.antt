use Rattle.std.proofs.Common.{◌&&◌, subst, ap, ap₂, is_some, ◌∙◌}
use Rattle.cocoon_syntax.specs.TreeOf.{design_of, name_of, role_of}
use Rattle.cocoon_types.specs.Noting.{Notes}
use Rattle.cocoon_types.specs.Rules.{not_refinable}
use Rattle.cocoon_types.specs.RuleParts.{unless}
use Rattle.cocoon_types.specs.Among.{among}
use Rattle.name_rules.specs.Among.{unrefinable}
use Rattle.name_rules.proofs.AmongFacts.{notes-more, some-map}
use Rattle.name_rules.proofs.AgainFacts.{seen-found}
use Rattle.cocoon_types.specs.Design.{role_at}
use Rattle.declarations.specs.NameNumbers.{number_of}
use Rattle.name_rules.proofs.listed.note_unrefinable.Goals as goal

pub loop-role-init : goal.loop-role-init
loop-role-init c = λ declared h. c.among_laws.ensures.none not_refinable c.args.noted.now

pub loop-role-preserved : goal.loop-role-preserved
loop-role-preserved c = λ declared h. notes-more c.among_laws.ensures not_refinable (unrefinable (design_of c.args.design.now) c.args.above declared) name_of c.args.roles.now c.loop-role.role-index c.role-item.result c.args.noted.now c.loop-role.noted c.note_unless.new.noted c.loop-role-test.true c.role-item.is (c.loop-role.invariant declared h)
    (subst (λ b. Notes (among not_refinable (unless b c.role-item.result.at)) c.loop-role.noted c.note_unless.new.noted)
    (c.both_hold-refinable.ensures ∙ ap₂ (λ a b. a && b)
    (c.is_some-there.ensures ∙ some-map (λ r. role_of r.now) c.role_at.result (role_at c.args.above (design_of c.args.design.now) c.bytes.result.now) c.role_at.ensures ∙ ap (λ x. is_some (role_at c.args.above (design_of c.args.design.now) x)) c.bytes.ensures)
    (c.is_some-again.ensures ∙ ap is_some (c.number.ensures ∙ ap (number_of c.args.table.now) c.bytes-in-loop-role.ensures) ∙ seen-found c.args.table.now declared c.role-item.result.text h))
    c.note_unless.ensures)
