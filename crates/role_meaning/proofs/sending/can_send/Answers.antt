use Rattle.std.proofs.Common.{◌≡◌, ℕ, true, false, List, Some, sym, ap, ap₂, ◌∙◌}
use Rattle.std.proofs.lemmas.Result.{IfOk-weaker}
use Rattle.cocoon_num.specs.Names.{same_name}
use Rattle.cocoon_num.specs.PacketForms.{PacketFits}
use Rattle.cocoon_syntax.specs.TreeOf.{design_of}
use Rattle.cocoon_resolve.specs.Readers.{reads_back}
use Rattle.cocoon_types.specs.Design.{layout, role_at}
use Rattle.role_meaning.proofs.Bridges.{packet_fits}
use Rattle.role_meaning.proofs.Guards.{role_name_of}
use Rattle.role_meaning.specs.Located.{loc_of, sent_of}
use Rattle.refinement.specs.Sending.{flat}
use Rattle.refinement.specs.Trails.{finds_in, first_marks}
use Rattle.sound_types.proofs.Options.{text_self}
use Rattle.sound_types.specs.Defined.{HasTables}
use Rattle.role_meaning.specs.Views.{some_tried}
use Rattle.role_meaning.proofs.Sent.{exactly, flat_sent, IfOk-both}
use Rattle.role_meaning.proofs.sending.can_send.Goals as goal

pub returns : goal.returns
returns c =
    let d = design_of c.args.checked.now in
    let level = c.args.level in
    let from = loc_of d c.args.from.now in
    let to = loc_of d c.args.to.now in
    let packet = sent_of d c.args.packet.now in
    let sent = sent_of d c.args.sent.now in
    let tables = c.args.defs.now in
    let has : HasTables d tables = record { rules = c.design.ensures.resolves.rules; literals = c.code_literals_fit.ensures.designs c.args.checked.now; fits = c.requires.defs } in
    let fits : PacketFits (layout d) packet = packet_fits d.headers c.args.packet.now.fields c.requires.fits in
    IfOk-weaker c.one_gives.result _ _ (λ can h defined stands.
    exactly c.runs_are_taken.ensures d level defined tables from to packet sent c.deref.result.now can
    (λ choices place. c.runs_by_tables.ensures.runs d tables defined has stands level from packet choices place fits)
    (λ sends.
    let g = sends.1 in
    let here : role_at level d c.requires.role.name ≡ Some g.role = ap (role_at level d) (sym (role_name_of d c.requires.role.name c.args.from.now.role c.requires.role.number)) ∙ g.role_is in
    let back : reads_back d g.role ≡ true = sym (c.requires.back c.requires.role.name g.role c.requires.role.number here) in
    let t = c.tried_choices_send.ensures c.know_reading.ensures.read.0 d tables c.know_reading.ensures.read.1 has level from to packet sent g.role g.body g.role_is g.body_is back fits sends in
    let wanted : finds_in c.items.result.now c.items-2.result.now g.body (λ m. false) (same_name t.0) (first_marks d.headers) ≡ finds_in to.values (flat sent) g.body (λ m. false) (same_name t.0) (first_marks d.headers) =
    ap₂ (λ (ts ss : List ℕ). finds_in ts ss g.body (λ m. false) (same_name t.0) (first_marks d.headers)) c.items.ensures (c.items-2.ensures ∙ sym (flat_sent d c.args.sent.now c.requires.sent)) in
    (t.0, t.1, ap (some_tried (same_name t.0)) c.deref.ensures.value ∙ c.in_ok-tried.ensures c.requires.role.name g.role g.body c.requires.role.number here g.body_is (same_name t.0) (wanted ∙ t.2 (same_name t.0) (text_self t.0))))
    (λ yes. h.0 yes defined stands) h.1)
    (IfOk-both c.one_gives.result _ _ c.one_gives.ensures.yes c.one_gives.ensures.no)
