use Rattle.std.proofs.Common.{◌≡◌, Some, map, option_map, rules, subst, ap}
use Rattle.cocoon_syntax.specs.TreeOf.{block_of, body_of, design_of, role_of, stmt_of}
use Rattle.cocoon_types.specs.Design.{last_level, role_at}
use Rattle.cocoon_types.specs.Noting.{Notes}
use Rattle.form_rules.specs.declared.stmts.Asked.{Asked}
use Rattle.form_rules.specs.Tested.{in_block}
use Rattle.form_rules.proofs.RoleFacts.{last-known}
use Rattle.form_rules.proofs.WalkFacts.{of-block}
use Rattle.form_rules.proofs.bodies.note_role.Goals as goal

pub returns-in-Some-body : goal.returns-in-Some-body
returns-in-Some-body c =
    let d = design_of c.args.design.now in
    let asked : Asked = record { wire = c.wire_of.result; sender = c.sender_of.result } in
    let role : role_at (last_level (design_of c.args.design.now)) (design_of c.args.design.now) c.args.name.now.text ≡ Some (role_of c.in-Some.role.now) = search rules in
    of-block c.noting_laws.ensures d c.args.name.now.text asked (body_of c.in-Some-body.body)
    (last-known d c.args.name.now.text (role_of c.in-Some.role.now) (body_of c.in-Some-body.body) role (ap (option_map body_of) c.in-Some-body.is))
    (λ a. c.wire_of.ensures a) (λ a. c.sender_of.ensures.sends a) (λ a. c.sender_of.ensures.forks a)
    (subst (λ ss. Notes (in_block d asked (block_of (map stmt_of ss))) c.args.noted.now c.note_block.new.noted) c.deref.ensures.value c.note_block.ensures.noted)
