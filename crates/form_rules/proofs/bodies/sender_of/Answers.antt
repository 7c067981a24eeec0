use Rattle.std.proofs.Common.{◌≡◌, Bor, option_map, rules, true, Some, ap, ◌∙◌}
use Rattle.cocoon_num.specs.Names.{same_name}
use Rattle.cocoon_syntax.specs.TreeOf.{design_of, param_of, role_of, switch_of}
use Rattle.cocoon_syntax.specs.declared.decl.Param.{Param}
use Rattle.cocoon_types.specs.Design.{switch_decl}
use Rattle.cocoon_types.specs.RuleParts.{unless, stmt_at}
use Rattle.form_rules.specs.Stmts.{sends_own}
use Rattle.form_rules.proofs.RoleFacts.{first-param, sender-known}
use Rattle.form_rules.proofs.bodies.sender_of.Goals as goal

pub returns-then-is_same-clause-sends : goal.returns-then-is_same-clause-sends
returns-then-is_same-clause-sends c =
    let own = option_map (λ (p : Bor Param). param_of p.now) c.first.result in
    let switch : switch_decl (design_of c.args.design.now) ≡ Some (switch_of c.in_ok-switch.switch.now) = search rules in
    let same : same_name c.args.name.now.text c.in_ok-switch.switch.now.into.text ≡ true = search rules in
    λ a. ap (λ out. unless (sends_own out own a) (stmt_at a)) c.bytes-then-is_same.ensures
    ∙ sender-known (design_of c.args.design.now) c.args.name.now.text (switch_of c.in_ok-switch.switch.now) (role_of c.args.role.now) own switch same c.requires.last
    (first-param c.first.result c.deref.result.now c.args.role.now.params.items c.first.ensures.value c.deref.ensures.value) a
