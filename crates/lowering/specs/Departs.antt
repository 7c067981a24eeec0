-- Cited by the laws of visits: where the body of a switch's role sends a packet, before the guard there is asked. It follows
-- the section "A body's run" of docs/LANGUAGE.md.
use Rattle.std.specs.Prelude.{ℕ, List, [], ◌∷◌, if◌then◌else◌, slice_get, Option, Some, None, option_map}
use Rattle.cocoon_num.specs.Packets.{Layout, Packet, leave}
use Rattle.cocoon_num.specs.Values.{fits_width, number}
use Rattle.cocoon_types.specs.Runs.{Loc}
use Rattle.cocoon_types.specs.Val.{Context, Env, bound, value}
use Rattle.p4_ir.specs.Switch.{Departure}
use Rattle.lowering.specs.Visit.{Forked, Visit, on, leaves, copies, nothing, visit_all, where_true}

-- the location and the packet, where a visit leaves
abbrev pub left_by : Visit → Option (Loc × Packet)
left_by (leaves to packet) = Some (to, packet)
left_by _ = None

-- a copy, where the fork takes its choice
abbrev pub copied : Context → Forked → Env → Packet → ℕ → Option (Loc × Packet)
copied c f env packet x =
    if fits_width f.width x
    then left_by (where_true (value c (bound f.x (number f.width x) env) packet f.e) (visit_all c f.body (bound f.x (number f.width x) env) packet) nothing)
    else None

-- with exactly these choices
abbrev pub departs : Context → Visit → List ℕ → Option (Loc × Packet)
departs c (leaves to packet) [] = Some (to, packet)
departs c (copies f env packet) (x ∷ []) = copied c f env packet x
departs c _ _ = None

-- the port, which is the second value of a location of the egress role, and the bytes
abbrev pub departure : Layout → (payload : List ℕ) → Loc × Packet → Departure
departure layout payload x = option_map (λ port. (port, leave layout x.1 payload)) (slice_get x.0.values 1)
