-- Cited by the laws of types, of visits and of networks: where the body of a switch's role may send.
use Rattle.std.specs.Prelude.{◌≡◌, ℕ, ◌<◌, ◌≤◌, ◌^◌, List, [], ◌∷◌, Option, Some, None}
use Rattle.cocoon_num.specs.PacketForms.{PacketFits}
use Rattle.cocoon_num.specs.Packets.{Layout, Packet}
use Rattle.cocoon_types.specs.Runs.{Loc}
use Rattle.lowering.specs.Visit.{Visit, on, leaves, copies, nothing}

-- the location is one of the egress role, at the own switch, and the packet fits
pub record IsExit (out : List ℕ) (layout : Layout) (switch : ℕ) (to : Loc) (packet : Packet) : Type 0 where
  pub port : ℕ
  pub role_is : to.role ≡ out
  pub values_are : to.values ≡ switch ∷ port ∷ []
  pub port_fits : port < 2 ^ 16
  pub packet_fits : PacketFits layout packet

-- a visit that leaves, leaves so; the variable of a fork that it reaches has a declared width
abbrev pub ExitsOnly : (out : List ℕ) → Layout → (switch : ℕ) → Visit → Type 0
ExitsOnly out layout s (on env packet) = Unit {0}
ExitsOnly out layout s (leaves to packet) = IsExit out layout s to packet
ExitsOnly out layout s (copies f env packet) = (1 ≤ f.width) × (f.width ≤ 64) × PacketFits layout packet
ExitsOnly out layout s nothing = Unit {0}
