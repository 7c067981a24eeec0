use Rattle.std.proofs.Common.{is_some, sym, ap, ◌∙◌}
use Rattle.cocoon_syntax.specs.TreeOf.{design_of, name_of, role_of}
use Rattle.cocoon_types.specs.Design.{role_at}
use Rattle.declarations.specs.NameNumbers.{number_of}
use Rattle.name_rules.proofs.AmongFacts.{some-map}
use Rattle.name_rules.proofs.AgainFacts.{seen-found}
use Rattle.name_rules.proofs.RedeclaredFacts.{stands}
use Rattle.name_rules.proofs.redeclared.role_may_stand.Goals as goal

pub returns : goal.returns
returns c = λ list h. c.either_holds.ensures ∙ stands c.is_some-again.result c.is_none-new.result (design_of c.args.design.now) c.args.above list (name_of c.args.role.now)
    (c.is_some-again.ensures ∙ ap is_some (c.number.ensures ∙ ap (number_of c.args.listed.now) c.bytes.ensures) ∙ seen-found c.args.listed.now list c.args.role.now.text h)
    (sym (some-map (λ r. role_of r.now) c.role_at.result (role_at c.args.above (design_of c.args.design.now) c.bytes-2.result.now) c.role_at.ensures ∙ ap (λ x. is_some (role_at c.args.above (design_of c.args.design.now) x)) c.bytes-2.ensures) ∙ c.is_none-new.ensures)
