use Rattle.std.proofs.Common.{◌≡◌, ◌-◌, Option, option_map, sym, ap, ◌∙◌, arith}
use Rattle.cocoon_syntax.specs.TreeOf.{design_of}
use Rattle.cocoon_types.specs.Design.{last_level}
use Rattle.role_meaning.specs.Located.{loc_of, sent_of}
use Rattle.role_meaning.specs.declared.place.Loc.{Loc}
use Rattle.role_meaning.specs.declared.place.Packet.{Packet}
use Rattle.lower_net.proofs.Leading.{leads_to}
use Rattle.lower_net.proofs.led.led_from.Goals as goal

pub returns-in-Some-clause-leads : goal.returns-in-Some-clause-leads
returns-in-Some-clause-leads c =
    let d = design_of c.args.checked.now in
    let last : c.levels-last.result - 1 ≡ last_level d = omega (arith, c.levels-last.ensures) in
    sym (ap (λ (r : Option (Loc × Packet)). option_map (loc_of d) (option_map (λ (x : Loc × Packet). x.0) r)) c.in-Some.is)
    ∙ leads_to c.runs_are_taken.ensures d c.args.defs.now (c.levels-last.result - 1) (loc_of d c.args.at.now) (sent_of d c.in_ok-packet.packet) c.in_ok-to.field-0 last c.in_ok-packet.ensures.is c.in_ok-to.ensures.tables

pub returns-clause-leads : goal.returns-clause-leads
returns-clause-leads c =
    let d = design_of c.args.checked.now in
    let last : c.levels-last.result - 1 ≡ last_level d = omega (arith, c.levels-last.ensures) in
    sym (ap (λ (r : Option (Loc × Packet)). option_map (loc_of d) (option_map (λ (x : Loc × Packet). x.0) r)) c.in-None.is)
    ∙ leads_to c.runs_are_taken.ensures d c.args.defs.now (c.levels-last.result - 1) (loc_of d c.args.at.now) (sent_of d c.in_ok-packet.packet) c.in_ok-to.field-0 last c.in_ok-packet.ensures.is c.in_ok-to.ensures.tables
