use Rattle.std.proofs.Common.{◌≡◌, Option, Some, None, IfSome, ap, subst, ◌∙◌}
use Rattle.cocoon_num.specs.PacketForms.{FieldsFit}
use Rattle.cocoon_resolve.specs.Readers.{field_widths, HasRole}
use Rattle.cocoon_syntax.specs.TreeOf.{design_of}
use Rattle.cocoon_types.specs.Runs.{world}
use Rattle.role_meaning.specs.Goings.{all_taken}
use Rattle.role_meaning.proofs.Exactly.{leads}
use Rattle.role_meaning.specs.declared.place.Led.{Led}
use Rattle.role_meaning.specs.declared.place.Loc.{Loc}
use Rattle.role_meaning.specs.declared.place.Packet.{Packet}
use Rattle.role_meaning.proofs.leading.go.Goals as goal

-- what holds of where it leads holds of the answer
kept : (P : Loc → Packet → Type 0) (led : Option Led) (to : Option (Loc × Packet)) → IfSome to (λ r. (l : Led) × (led ≡ Some l) × (l.to ≡ r.0) × (l.packet ≡ r.1))
    → IfSome led (λ l. P l.to l.packet) → IfSome to (λ r. P r.0 r.1)
kept P led None h k = tt
kept P led (Some r) h k =
    let l = h.0 in
    let there : P l.to l.packet = subst (λ (o : Option Led). IfSome o (λ x. P x.to x.packet)) h.1 k in
    subst (λ x. P x r.1) h.2 (subst (P l.to) h.3 there)

pub returns-clause-goes : goal.returns-clause-goes
returns-clause-goes c =
    let d = design_of c.args.checked.now in
    λ F stands. leads c.runs_are_taken.ensures d (world c.args.level d F) c.args.at.now c.args.packet.now c.args.choices.now c.where_none_is_left.result
    (c.where_none_is_left.ensures.leads d ∙ ap all_taken (c.in_ok-led.ensures.runs F stands))

pub returns-clause-tables : goal.returns-clause-tables
returns-clause-tables c =
    let d = design_of c.args.checked.now in
    c.where_none_is_left.ensures.leads d ∙ ap all_taken c.in_ok-led.ensures.tables

pub returns-clause-fits : goal.returns-clause-fits
returns-clause-fits c =
    kept (λ to packet. FieldsFit (field_widths (design_of c.args.checked.now)) packet.fields) c.in_ok-led.led c.where_none_is_left.result c.where_none_is_left.ensures.same c.in_ok-led.ensures.fits

pub returns-clause-at : goal.returns-clause-at
returns-clause-at c =
    kept (λ to packet. HasRole (design_of c.args.checked.now) to.role c.args.level) c.in_ok-led.led c.where_none_is_left.result c.where_none_is_left.ensures.same c.in_ok-led.ensures.at
