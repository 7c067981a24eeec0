-- Cited by the clauses of `lead` and `go`: where the body of a role leads.
use Rattle.std.specs.Prelude.{◌≡◌, ℕ, List, ◌++◌, Option, Some, None}
use Rattle.cocoon_num.specs.Packets as packets
use Rattle.cocoon_num.specs.Tree.{Design}
use Rattle.cocoon_types.specs.Runs as runs
use Rattle.cocoon_types.specs.Runs.{Go, World}
use Rattle.cocoon_types.specs.Taken.{Used}
use Rattle.role_meaning.specs.Located.{loc_of, sent_of}
use Rattle.role_meaning.specs.declared.place.Led.{Led}
use Rattle.role_meaning.specs.declared.place.Loc.{Loc}
use Rattle.role_meaning.specs.declared.place.Packet.{Packet}

-- the body's run, with exactly these choices, leads to this location and packet, or nowhere
abbrev pub Leads : Design → World → Loc → Packet → List ℕ → Option (Loc × Packet) → Type 0
Leads d w at packet choices (Some r) = Go w (loc_of d at) (sent_of d packet) choices (loc_of d r.0) (sent_of d r.1)
Leads d w at packet choices None = (to : runs.Loc) (sent : packets.Packet) → Go w (loc_of d at) (sent_of d packet) choices to sent → ⊥

-- the body's run, with the choices in front of those that are left, leads to this location and packet, or it leads nowhere
-- with any that stand in front
abbrev pub LeadsOn : Design → World → Loc → Packet → List ℕ → Option Led → Type 0
LeadsOn d w at packet choices (Some r) = Used choices r.rest.now (λ used. Go w (loc_of d at) (sent_of d packet) used (loc_of d r.to) (sent_of d r.packet))
LeadsOn d w at packet choices None =
    (used rest : List ℕ) (to : runs.Loc) (sent : packets.Packet) → choices ≡ used ++ rest → Go w (loc_of d at) (sent_of d packet) used to sent → ⊥
