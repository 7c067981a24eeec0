-- Cited by the laws of networks: that the visits of the switches of a network are runs of the ingress role's body. It follows
-- the sections "A body's run" of docs/LANGUAGE.md and "The network" of docs/FORMATS.md.
use Rattle.std.specs.Prelude.{◌≡◌, ◌↔◌, ℕ, ◌<◌, ◌^◌, true, List, [], ◌∷◌, Option, Some, option_and_then}
use Rattle.cocoon_num.specs.PacketForms.{PacketFits}
use Rattle.cocoon_num.specs.Packets.{Layout, Packet, enter}
use Rattle.cocoon_num.specs.Tree.{SwitchDecl, Design}
use Rattle.cocoon_num.specs.Values.{truth}
use Rattle.cocoon_types.specs.Design.{last_level, layout}
use Rattle.cocoon_types.specs.Runs.{Loc, Go, world}
use Rattle.cocoon_types.specs.Tables.{Defs}
use Rattle.cocoon_types.specs.Taken.{guard_at}
use Rattle.cocoon_types.specs.Val.{Context}
use Rattle.p4_ir.specs.Switch.{Departure, switch_go}
use Rattle.lowering.specs.Agrees.{inner_context}
use Rattle.lowering.specs.Visit.{visit_all}
use Rattle.lowering.specs.Whole.{SwitchRole, role_env}
use Rattle.lowering.specs.Departs.{departs, departure}
use Rattle.lowering.specs.Roles.{NetParts}
use Rattle.lowering.specs.SwitchProgram.{switch_made, switch_program}
use Rattle.lowering_correct.specs.SwitchRows.{switch_rows}
use Rattle.runtime_defs.specs.Places.{Places}

-- a port of a switch, as a location of the ingress role
abbrev pub into_at : SwitchDecl → (switch port : ℕ) → Loc
into_at names s p = record { role = names.into.text; values = s ∷ p ∷ [] }

-- what the role's expressions are evaluated in
abbrev pub role_context : SwitchRole → Defs → Context
role_context r defs = inner_context r.headers defs r.functions

-- where its body sends a packet with these choices
abbrev pub body_departs : SwitchRole → Defs → (switch port : ℕ) → Packet → List ℕ → Option (Loc × Packet)
body_departs r defs s p packet cs = departs (role_context r defs) (visit_all (role_context r defs) r.body (role_env r s p) packet) cs

-- the same of bytes
abbrev pub bytes_depart : Layout → SwitchRole → Defs → (switch port : ℕ) → (bytes choices : List ℕ) → Departure
bytes_depart layout r defs s p bytes cs =
    option_and_then (λ (x : Packet × List ℕ). option_and_then (departure layout x.1) (body_departs r defs s p x.0 cs)) (enter layout bytes)

-- a location of the egress role at this switch, and a packet that fits
abbrev pub Exits : Design → SwitchDecl → (switch : ℕ) → Loc → Packet → Type 0
Exits d names s to packet = (port : ℕ) × (to ≡ record { role = names.out.text; values = s ∷ port ∷ [] }) × PacketFits (layout d) packet

-- At each port of each switch a visit sends what the body of the ingress role does, with the same choices; so it is with the
-- body's runs, where the guards of both locations are true; and the body sends to the egress role at its own switch alone.
pub record AreFollowed (d : Design) (places : Places) (defs : Defs) (parts : NetParts) : Type 0 where
  pub visits : (s p : ℕ) → s < 2 ^ 16 → p < 2 ^ 16 → (tag : ℕ) (bytes cs : List ℕ)
      → switch_go (switch_program parts.role s) (switch_rows d places (switch_made parts.role s)) tag p bytes cs
      ≡ bytes_depart (layout d) parts.role defs s p bytes cs
  pub runs : (s p : ℕ) → s < 2 ^ 16 → p < 2 ^ 16 → (packet : Packet) → PacketFits (layout d) packet → (cs : List ℕ) (to : Loc) (sent : Packet)
      → Go (world (last_level d) d defs) (into_at parts.switches s p) packet cs to sent
      ↔ (guard_at (world (last_level d) d defs) (into_at parts.switches s p) ≡ Some (truth true))
      × (body_departs parts.role defs s p packet cs ≡ Some (to, sent)) × (guard_at (world (last_level d) d defs) to ≡ Some (truth true))
  pub exits : (s p : ℕ) → s < 2 ^ 16 → p < 2 ^ 16 → (packet : Packet) → PacketFits (layout d) packet → (cs : List ℕ) (to : Loc) (sent : Packet)
      → body_departs parts.role defs s p packet cs ≡ Some (to, sent) → Exits d parts.switches s to sent
