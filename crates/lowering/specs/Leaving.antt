-- Cited by `switches_depart` and `departs_are_runs`. What leaves a switch, by the visit of its role.
use Rattle.std.specs.Prelude.{◌≡◌, ℕ, ◌^◌, ◌<◌, true, List, [], ◌∷◌, Some, option_and_then}
use Rattle.cocoon_num.specs.Packets.{Packet, enter}
use Rattle.cocoon_num.specs.Tree.{Role}
use Rattle.cocoon_num.specs.Values.{truth}
use Rattle.cocoon_types.specs.Runs.{Loc, World}
use Rattle.cocoon_types.specs.Taken.{guard_at}
use Rattle.cocoon_types.specs.Val.{bind}
use Rattle.p4_ir.specs.Switch.{Departure}
use Rattle.lowering.specs.Agrees.{Filling}
use Rattle.lowering.specs.Whole.{SwitchRole, role_env}
use Rattle.lowering.specs.Departs.{departs, departure}
use Rattle.lowering.specs.Fitting.{role_context, role_layout, role_visit}

-- what leaves of some bytes with exactly these choices, before the guard of the location is asked
abbrev pub role_departs : SwitchRole → Filling → (switch port : ℕ) → (bytes choices : List ℕ) → Departure
role_departs r fill s port bytes cs =
    option_and_then (λ x. option_and_then (departure (role_layout r) x.1)
    (departs (role_context r fill) (role_visit r fill s port x.0) cs)) (enter (role_layout r) bytes)

-- ---- in a world

-- the location of a role at a port of a switch
abbrev pub port_at : (role : List ℕ) → (switch port : ℕ) → Loc
port_at role s p = record { role = role; values = s ∷ p ∷ [] }

-- the world has the switches' role under this name
pub record HasRole (w : World) (r : SwitchRole) (fill : Filling) (called : List ℕ) : Type 0 where
  pub context_is : w.context ≡ role_context r fill
  pub role : Role
  pub role_is : w.role called ≡ Some role
  pub body_is : role.body ≡ Some r.body
  pub binds : (s p : ℕ) → s < 2 ^ 16 → p < 2 ^ 16 → bind role.params (s ∷ p ∷ []) ≡ Some (role_env r s p)

abbrev pub StandsAt : World → Loc → Type 0
StandsAt w at = guard_at w at ≡ Some (truth true)

-- from a port that stands, a packet leaves to a location that stands, with exactly these choices
pub record LeavesTo (w : World) (r : SwitchRole) (fill : Filling) (role : List ℕ) (switch port : ℕ) (packet : Packet) (choices : List ℕ) (to : Loc) (sent : Packet) : Type 0 where
  pub from_stands : StandsAt w (port_at role switch port)
  pub departs_to : departs (role_context r fill) (role_visit r fill switch port packet) choices ≡ Some (to, sent)
  pub to_stands : StandsAt w to
