use Rattle.std.proofs.Common.{◌≡◌, Some, None, Vec, Global, map, option_map, IfOk, sym, ap, subst, ◌∙◌}
use Rattle.cocoon_num.specs.Tree.{Block}
use Rattle.cocoon_syntax.specs.TreeOf.{block_of, body_of, role_of, stmt_of}
use Rattle.cocoon_types.specs.Design.{role_at}
use Rattle.role_meaning.specs.Goings.{led_at, led_from}
use Rattle.role_meaning.specs.Levels.{design_at, entered, world_at}
use Rattle.role_meaning.specs.Located.{loc_of}
use Rattle.role_values.specs.Bound.{env_of}
use Rattle.role_values.specs.Flat.{packet_of}
use Rattle.role_values.specs.Scenes.{headers_of}
use Rattle.role_values.specs.declared.bindings.Binding.{Binding}
use Rattle.role_meaning.proofs.Guards.{entry, no_entry, no_go, role_name_of}
use Rattle.role_meaning.proofs.going.run_role.Goals as goal

pub returns-in_default-clause-leads : goal.returns-in_default-clause-leads
returns-in_default-clause-leads c =
    let l = c.args.level.now in
    let d = design_at l in
    let at = loc_of d c.args.at.now in
    let r = role_of c.role-role.result.now in
    let here : role_at l.number d at.role ≡ Some r = ap (role_at l.number d) (role_name_of d c.requires.role.name c.args.at.now.role c.requires.role.number) ∙ c.role-role.ensures c.requires.role.name c.requires.role.number in
    let sink : r.body ≡ None = ap (option_map body_of) c.in_default.is in
    sym (no_go (world_at l) at (packet_of (headers_of l.scene) c.args.packet.now.fields) c.args.choices.now r here sink)

pub returns-in-Some-2-clause-leads : goal.returns-in-Some-2-clause-leads
returns-in-Some-2-clause-leads c =
    let l = c.args.level.now in
    let d = design_at l in
    let w = world_at l in
    let at = loc_of d c.args.at.now in
    let packet = packet_of (headers_of l.scene) c.args.packet.now.fields in
    let r = role_of c.role-role.result.now in
    let here : role_at l.number d at.role ≡ Some r = ap (role_at l.number d) (role_name_of d c.requires.role.name c.args.at.now.role c.requires.role.number) ∙ c.role-role.ensures c.requires.role.name c.requires.role.number in
    let b : Block = body_of c.in-Some.body in
    let body : r.body ≡ Some b = ap (option_map body_of) c.in-Some.is in
    let values : c.items.result.now ≡ at.values = c.items.ensures in
    let env : entered w r at.values ≡ Some (env_of c.in-Some-2.variables.items) =
    sym (ap (option_map (λ (bs : Vec Binding Global). env_of bs.items)) (sym c.in-Some-2.is) ∙ c.in_ok-variables.ensures ∙ ap (entered w r) values) in
    let same : led_from l (block_of (map stmt_of c.deref.result.now)) c.in-Some-2.variables.items c.args.packet.now.fields c.args.choices.now
    ≡ led_from l b c.in-Some-2.variables.items c.args.packet.now.fields c.args.choices.now =
    ap (λ xs. led_from l (block_of (map stmt_of xs)) c.in-Some-2.variables.items c.args.packet.now.fields c.args.choices.now) c.deref.ensures.value in
    subst (λ z. IfOk c.run_body.result (λ to. option_map (led_at l) to ≡ z))
    (same ∙ sym (entry w at packet c.args.choices.now r b (env_of c.in-Some-2.variables.items) here body env))
    c.run_body.ensures.leads

pub returns-in-None-clause-leads : goal.returns-in-None-clause-leads
returns-in-None-clause-leads c =
    let l = c.args.level.now in
    let d = design_at l in
    let w = world_at l in
    let at = loc_of d c.args.at.now in
    let packet = packet_of (headers_of l.scene) c.args.packet.now.fields in
    let r = role_of c.role-role.result.now in
    let here : role_at l.number d at.role ≡ Some r = ap (role_at l.number d) (role_name_of d c.requires.role.name c.args.at.now.role c.requires.role.number) ∙ c.role-role.ensures c.requires.role.name c.requires.role.number in
    let b : Block = body_of c.in-Some.body in
    let body : r.body ≡ Some b = ap (option_map body_of) c.in-Some.is in
    let values : c.items.result.now ≡ at.values = c.items.ensures in
    let none : entered w r at.values ≡ None =
    sym (ap (option_map (λ (bs : Vec Binding Global). env_of bs.items)) (sym c.in-None.is) ∙ c.in_ok-variables.ensures ∙ ap (entered w r) values) in
    sym (no_entry w at packet c.args.choices.now r b here body none)
