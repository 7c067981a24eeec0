-- Cited by the clauses of runs of bodies: where they lead, and the choices that are left.
use Rattle.std.specs.Prelude.{ℕ, List, [], ◌∷◌, Option, Some, None, option_and_then}
use Rattle.cocoon_num.specs.Packets.{Packet}
use Rattle.cocoon_num.specs.Tree.{Block, Design}
use Rattle.cocoon_types.specs.Runs as runs
use Rattle.cocoon_types.specs.Taken.{if_reached, Reached}
use Rattle.role_meaning.specs.Levels.{design_at, world_at}
use Rattle.role_meaning.specs.Located.{loc_of, sent_of}
use Rattle.role_meaning.specs.declared.level.Level.{Level}
use Rattle.role_meaning.specs.declared.place.Led.{Led}
use Rattle.role_meaning.specs.declared.place.Loc.{Loc}
use Rattle.role_meaning.specs.declared.place.Packet as code
use Rattle.role_values.specs.Bound.{env_of}
use Rattle.role_values.specs.FittingRuns.{fitting_all}
use Rattle.role_values.specs.Flat.{packet_of}
use Rattle.role_values.specs.Scenes.{headers_of}
use Rattle.role_values.specs.declared.bindings.Binding.{Binding}

-- the location, the packet and the choices that are left
abbrev pub led_at : Level → Led → runs.Loc × Packet × List ℕ
led_at l r = (loc_of (design_at l) r.to, packet_of (headers_of l.scene) r.packet.fields, r.rest.now)

-- the same, by the design
abbrev pub led_of : Design → Led → runs.Loc × Packet × List ℕ
led_of d r = (loc_of d r.to, sent_of d r.packet, r.rest.now)

-- the location and the packet
abbrev pub went_of : Design → Loc × code.Packet → runs.Loc × Packet
went_of d r = (loc_of d r.0, sent_of d r.1)

-- where it leads, if no choice is left
abbrev pub if_none_left : runs.Loc → Packet → List ℕ → Option (runs.Loc × Packet)
if_none_left to sent [] = Some (to, sent)
if_none_left to sent (c ∷ cs) = None

-- where a run leads that takes all choices
abbrev pub all_taken : Reached → Option (runs.Loc × Packet)
all_taken r = option_and_then (λ (x : runs.Loc × Packet × List ℕ). if_none_left x.0 x.1 x.2) r

-- where a block leads from these variables, fields and choices
abbrev pub led_from : Level → Block → List Binding → (fields choices : List ℕ) → Reached
led_from l b bs fields choices = if_reached (fitting_all (world_at l) b (env_of bs) (packet_of (headers_of l.scene) fields) choices)
