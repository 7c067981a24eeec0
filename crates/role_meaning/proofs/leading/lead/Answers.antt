use Rattle.std.proofs.Common.{◌≡◌, Some, ap, ◌∙◌}
use Rattle.std.proofs.lemmas.Result.{IfOk-weaker}
use Rattle.cocoon_num.specs.PacketForms.{PacketFits}
use Rattle.cocoon_syntax.specs.TreeOf.{design_of}
use Rattle.cocoon_types.specs.Design.{functions, layout, role_at}
use Rattle.cocoon_types.specs.Runs.{world}
use Rattle.cocoon_types.specs.Tables.{Defs}
use Rattle.cocoon_types.specs.Taken.{go}
use Rattle.role_meaning.specs.Located.{loc_of, sent_of}
use Rattle.role_values.specs.FittingRuns.{fitting_go}
use Rattle.role_values.specs.Worlds.{world_by}
use Rattle.runtime_defs.specs.Fitting.{FitsPlace}
use Rattle.runtime_defs.specs.Stands.{Stands}
use Rattle.sound_types.specs.Defined.{HasTables}
use Rattle.sound_types.specs.Ends.{LocFits}
use Rattle.role_meaning.proofs.Bridges.{packet_fits, stands_same, zip_count}
use Rattle.role_meaning.proofs.Guards.{role_name_of}
use Rattle.role_meaning.proofs.Exactly.{leads_on, where_fits}
use Rattle.role_meaning.proofs.leading.lead.Goals as goal

pub lead_by_tables-requires-clause-count : goal.lead_by_tables-requires-clause-count
lead_by_tables-requires-clause-count c =
    let d = design_of c.args.checked.now in
    zip_count FitsPlace (functions d) c.args.defs.now c.requires.defs.places

pub returns-clause-leads : goal.returns-clause-leads
returns-clause-leads c =
    let d = design_of c.args.checked.now in
    let level = c.args.level in
    let tables = c.args.defs.now in
    let at = loc_of d c.args.at.now in
    let packet = sent_of d c.args.packet.now in
    let cs = c.args.choices.now in
    let r = c.requires.role.latest in
    let here : role_at level d at.role ≡ Some r = ap (role_at level d) (role_name_of d c.requires.role.name c.args.at.now.role c.requires.role.number) ∙ c.requires.role.declared in
    let has : HasTables d tables = record { rules = c.go_laws.ensures.rules.rules; literals = c.go_laws.ensures.literals c.args.checked.now; fits = c.requires.defs } in
    let fits : PacketFits (layout d) packet = packet_fits d.headers c.args.packet.now.fields c.requires.fits in
    let same : (F : Defs) → Stands d tables F → fitting_go (world_by tables level d) at packet cs ≡ go (world level d F) at packet cs = λ F stands.
    where_fits (world_by tables level d) (world level d F) at packet cs r here here
    (λ values. let in_place : LocFits level d at = (r, here, values) in
    c.go_laws.ensures.fitting d tables has level at packet cs in_place fits ∙ c.go_laws.ensures.runs d tables F has (stands_same d tables F stands) level at packet cs in_place fits) in
    IfOk-weaker c.lead_by_tables.result _ _
    (λ led h F stands. leads_on c.go_laws.ensures.taken d (world level d F) c.args.at.now c.args.packet.now cs led (h ∙ same F stands))
    c.lead_by_tables.ensures.leads

pub returns-clause-runs : goal.returns-clause-runs
returns-clause-runs c =
    let d = design_of c.args.checked.now in
    let level = c.args.level in
    let tables = c.args.defs.now in
    let at = loc_of d c.args.at.now in
    let packet = sent_of d c.args.packet.now in
    let cs = c.args.choices.now in
    let r = c.requires.role.latest in
    let here : role_at level d at.role ≡ Some r = ap (role_at level d) (role_name_of d c.requires.role.name c.args.at.now.role c.requires.role.number) ∙ c.requires.role.declared in
    let has : HasTables d tables = record { rules = c.go_laws.ensures.rules.rules; literals = c.go_laws.ensures.literals c.args.checked.now; fits = c.requires.defs } in
    let fits : PacketFits (layout d) packet = packet_fits d.headers c.args.packet.now.fields c.requires.fits in
    let same : (F : Defs) → Stands d tables F → fitting_go (world_by tables level d) at packet cs ≡ go (world level d F) at packet cs = λ F stands.
    where_fits (world_by tables level d) (world level d F) at packet cs r here here
    (λ values. let in_place : LocFits level d at = (r, here, values) in
    c.go_laws.ensures.fitting d tables has level at packet cs in_place fits ∙ c.go_laws.ensures.runs d tables F has (stands_same d tables F stands) level at packet cs in_place fits) in
    IfOk-weaker c.lead_by_tables.result _ _ (λ led h F stands. h ∙ same F stands) c.lead_by_tables.ensures.leads

pub returns-clause-tables : goal.returns-clause-tables
returns-clause-tables c =
    let d = design_of c.args.checked.now in
    let level = c.args.level in
    let tables = c.args.defs.now in
    let at = loc_of d c.args.at.now in
    let packet = sent_of d c.args.packet.now in
    let cs = c.args.choices.now in
    let r = c.requires.role.latest in
    let here : role_at level d at.role ≡ Some r = ap (role_at level d) (role_name_of d c.requires.role.name c.args.at.now.role c.requires.role.number) ∙ c.requires.role.declared in
    let has : HasTables d tables = record { rules = c.go_laws.ensures.rules.rules; literals = c.go_laws.ensures.literals c.args.checked.now; fits = c.requires.defs } in
    let fits : PacketFits (layout d) packet = packet_fits d.headers c.args.packet.now.fields c.requires.fits in
    let w = world_by tables level d in
    let same : fitting_go w at packet cs ≡ go w at packet cs =
    where_fits w w at packet cs r here here (λ values. c.go_laws.ensures.fitting d tables has level at packet cs (r, here, values) fits) in
    IfOk-weaker c.lead_by_tables.result _ _ (λ led h. h ∙ same) c.lead_by_tables.ensures.leads
