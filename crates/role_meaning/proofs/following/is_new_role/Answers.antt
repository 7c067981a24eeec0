use Rattle.std.proofs.Common.{◌≡◌, ◌∙◌, rules, is_none, Option, Some, None, option_map, ap, refl, sym}
use Rattle.cocoon_syntax.specs.TreeOf.{design_of, role_of}
use Rattle.cocoon_types.specs.Design.{role_at}
use Rattle.declarations.specs.Declares.{role_number}
use Rattle.role_meaning.proofs.Guards.{role_name_of}
use Rattle.role_meaning.proofs.Chains.{mapped, new_is}
use Rattle.role_meaning.proofs.following.is_new_role.Goals as goal

pub returns : goal.returns
returns c =
    let d = design_of c.args.checked.now in
    let name = c.requires.name in
    let found = c.role.result in
    let number : role_number (design_of c.design.result.now) name ≡ Some c.args.role = ap (λ x. role_number (design_of x) name) c.design.ensures.is ∙ c.requires.number in
    let here : role_at c.args.above d name ≡ option_map (λ r. role_of r.now) found = ap (λ x. role_at c.args.above (design_of x) name) (sym c.design.ensures.is) ∙ sym (c.role.ensures name number) in
    let none : c.is_none.result ≡ is_none found = search rules in
    new_is c.args.above d _ name c.requires.latest (option_map (λ r. role_of r.now) found) c.is_none.result (role_name_of d name c.args.role c.requires.number) c.requires.declared here
    (none ∙ sym (mapped (λ r. role_of r.now) found))
