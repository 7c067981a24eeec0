use Rattle.std.proofs.Common.{◌≡◌, Some, option_map, sym, ap, ◌∙◌}
use Rattle.cocoon_syntax.specs.TreeOf.{design_of, role_of}
use Rattle.cocoon_types.specs.Design as spec
use Rattle.obligation_tests.proofs.trees.role_at.Goals as goal

pub returns : goal.returns
returns c =
    let name = c.args.name.now in
    record {
      name = name;
      number = sym c.role_of.ensures ∙ c.in_ok-role.was;
      latest = role_of c.in_ok-role_at.field-0.now;
      declared = ap (λ x. spec.role_at c.args.level (design_of x) name) (sym c.design.ensures.is) ∙ sym c.role_at.ensures ∙ ap (option_map (λ (r : _). role_of r.now)) c.in_ok-role_at.was;
    }
