-- The laws of networks, from the rules of a design.
use Rattle.std.proofs.Common.{◌≡◌, ℕ, ◌^◌, ◌<◌, ◌%◌, ◌==◌, true, List, [], ◌∷◌, map, Some, sym, subst}
use Rattle.std.specs.Prelude.{flat_map}
use Rattle.std.proofs.lemmas.Bool.{eqb-true}
use Rattle.cocoon_num.specs.PacketForms.{AllWhole, PacketFits}
use Rattle.cocoon_num.specs.Packets.{Layout, Packet, enter, leave, total}
use Rattle.cocoon_num.specs.Tree.{HeaderDecl, Design}
use Rattle.cocoon_types.specs.Design.{layout, widths_of}
use Rattle.cocoon_types.specs.RuleParts.{unless_named}
use Rattle.cocoon_types.specs.Rules.{header_width}
use Rattle.cocoon_types.specs.Tables.{Defs}
use Rattle.cocoon_types.specs.Taken.{RunsAreTaken}
use Rattle.lowering.specs.Delivers.{DeliversExactly}
use Rattle.lowering_correct.specs.Network.{IsNetwork}
use Rattle.lowering_correct.specs.Followed.{AreFollowed}
use Rattle.p4_ir.specs.NetFits.{wiring_of}
use Rattle.p4_ir.specs.NetTree.{NetData}
use Rattle.p4_ir.specs.Wiring.{wiring_fits}
use Rattle.runtime_defs.specs.Places.{Places}
use Rattle.runtime_defs.specs.Stands.{Stands}
use Rattle.sound_types.specs.Defined.{HasTables}
use Rattle.lowering_correct.proofs.Ingress.{ingress_is}
use Rattle.lowering_correct.proofs.Network.{both_ways}
use Rattle.sound_types.proofs.Options.{nil_left, nil_right, passes}
use Rattle.lowering_correct.proofs.Steps.{SameGuards, SameRuns}
use Rattle.lowering_correct.proofs.Wiring.{fits}

-- each header fills whole bytes
whole : (hs : List HeaderDecl) → flat_map (λ (h : HeaderDecl). unless_named (total (widths_of h.fields) % 8 == 0) h.name) hs ≡ [] → AllWhole (map (λ (h : HeaderDecl). widths_of h.fields) hs)
whole [] e = tt
whole (h ∷ hs) e =
    let first = unless_named (total (widths_of h.fields) % 8 == 0) h.name in
    let rest = flat_map (λ (x : HeaderDecl). unless_named (total (widths_of x.fields) % 8 == 0) x.name) hs in
    (eqb-true (total (widths_of h.fields) % 8) 0 (passes (total (widths_of h.fields) % 8 == 0) h.name.at (nil_left first rest e)), whole hs (nil_right first rest e))

pub delivers : ((layout : Layout) (packet : Packet) (payload : List ℕ) → AllWhole layout → PacketFits layout packet → enter layout (leave layout packet payload) ≡ Some (packet, payload))
    → RunsAreTaken
    → ((d : Design) (places : Places) (defs : Defs) → HasTables d places → Stands d places defs → SameGuards d places defs)
    → ((d : Design) (places : Places) (defs : Defs) → HasTables d places → Stands d places defs → SameRuns d places defs)
    → ((layout : Layout) (bytes : List ℕ) (packet : Packet) (payload : List ℕ) → enter layout bytes ≡ Some (packet, payload) → PacketFits layout packet)
    → (d : Design) (defs : Defs) (places : Places) (net : NetData) → HasTables d places → Stands d places defs → (n : IsNetwork d places net) → AreFollowed d places defs n.parts → DeliversExactly net d defs
delivers again taken guards runs entered d defs places net tables stands n followed =
    subst (λ x. DeliversExactly x d defs) (sym n.net_is)
    (both_ways d places defs (guards d places defs tables stands) (runs d places defs tables stands) taken (entered (layout d))
    (λ packet payload fits. again (layout d) packet payload (whole d.headers (tables.rules header_width)) fits)
    tables.rules n.parts (ingress_is d tables.rules n.parts n.parts_are) n.switches n.hosts n.numbers followed)

pub wired : (d : Design) (places : Places) (net : NetData) → HasTables d places → IsNetwork d places net → net.ports < 2 ^ 16 → wiring_fits (wiring_of net) ≡ true
wired d places net tables n few =
    subst (λ x. wiring_fits (wiring_of x) ≡ true) (sym n.net_is)
    (fits d places tables.rules n.parts (ingress_is d tables.rules n.parts n.parts_are) n.switches n.hosts n.numbers (subst (λ (x : NetData). x.ports < 2 ^ 16) n.net_is few))
