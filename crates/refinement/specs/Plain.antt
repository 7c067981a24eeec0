-- Cited by the clauses of the law `ways_are_runs`: where bodies lead, without the branches taken.
use Rattle.std.specs.Prelude.{ℕ, List, Option, option_map}
use Rattle.cocoon_num.specs.Packets.{Packet}
use Rattle.cocoon_types.specs.Runs.{Loc}
use Rattle.cocoon_types.specs.Taken.{Reached}
use Rattle.refinement.specs.Ways.{Arrival}

-- the location, the packet and the choices that are left
abbrev pub plain : Arrival → Loc × Packet × List ℕ
plain a = (a.to, a.sent, a.rest)

-- the same, if a run leads anywhere
abbrev pub plainly : Option Arrival → Reached
plainly o = option_map plain o
