-- Cited by the clauses of the laws on segments: locations and packets of the examples.
use Rattle.std.specs.Prelude.{ℕ, List, [], ◌∷◌}
use Rattle.cocoon_num.specs.Packets.{Packet}
use Rattle.cocoon_types.specs.Runs.{Loc}

-- a location of the role
abbrev pub at_role : (role values : List ℕ) → Loc
at_role role values = record { role = role; values = values }

-- from 10.0.0.1 to 10.0.0.2
abbrev pub packet_m : Packet
packet_m = (167772161 ∷ 167772162 ∷ []) ∷ []

-- to 2
abbrev pub packet_three : Packet
packet_three = (2 ∷ []) ∷ []
