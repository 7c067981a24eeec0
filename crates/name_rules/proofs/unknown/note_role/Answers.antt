use Rattle.std.proofs.Common.{is_some, subst, ap, ◌∙◌}
use Rattle.cocoon_syntax.specs.TreeOf.{design_of, role_of}
use Rattle.cocoon_types.specs.Design.{role_at}
use Rattle.cocoon_types.specs.Noting.{Notes}
use Rattle.cocoon_types.specs.Rules.{unknown_role}
use Rattle.cocoon_types.specs.RuleParts.{unless}
use Rattle.cocoon_types.specs.Among.{among}
use Rattle.name_rules.proofs.AmongFacts.{some-map}
use Rattle.name_rules.proofs.unknown.note_role.Goals as goal

pub returns : goal.returns
returns c = subst (λ b. Notes (among unknown_role (unless b c.args.role.now.at)) c.args.noted.now c.note_unless.new.noted)
    (c.is_some-known.ensures ∙ some-map (λ r. role_of r.now) c.role_at.result (role_at c.args.level (design_of c.args.design.now) c.bytes.result.now) c.role_at.ensures ∙ ap (λ x. is_some (role_at c.args.level (design_of c.args.design.now) x)) c.bytes.ensures)
    c.note_unless.ensures
