use Rattle.std.proofs.Common.{◌∙◌, ap, sym, subst, refl}
use Rattle.cocoon_syntax.specs.TreeOf.{role_of}
use Rattle.numbering.specs.NameNumbers.{number_of}
use Rattle.declarations.specs.Declares.{AddsName}
use Rattle.declarations.proofs.RoleFacts.{role-old, role-new, role-within}
use Rattle.declarations.proofs.role_table.RoleTable.append.Goals as goal

pub returns-in_ok-add_place-in-Some : goal.returns-in_ok-add_place-in-Some
returns-in_ok-add_place-in-Some c = λ placed h.
    let found = ap (number_of c.args.self.now.names) (sym c.bytes.ensures) ∙ sym c.number.ensures ∙ c.in-Some.is in
    role-old c.args.self.now (record { names = c.args.self.now.names; places = c.add_place.new.lists }) placed c.args.place (role_of c.args.role.now) c.in-Some.number h found refl
    (c.in_ok-add_place-in-Some.ensures (role-within c.args.self.now placed _ c.in-Some.number h found))

pub returns-in_ok-append_new-in-None : goal.returns-in_ok-append_new-in-None
returns-in_ok-append_new-in-None c = λ placed h.
    role-new c.args.self.now c.append_new.new.self placed c.args.place (role_of c.args.role.now) h
    (ap (number_of c.args.self.now.names) (sym c.bytes.ensures) ∙ sym c.number.ensures ∙ c.in-None.is)
    (subst (AddsName c.args.self.now c.append_new.new.self c.args.place) c.bytes-in-None.ensures c.in_ok-append_new-in-None.ensures)
