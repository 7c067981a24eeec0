-- Cited by the clauses of the laws of levels: what a level may deliver within a number of bodies.
use Rattle.std.specs.Prelude.{ℕ, ◌≤◌, List}
use Rattle.cocoon_num.specs.Packets.{Packet}
use Rattle.cocoon_num.specs.Tree.{Design}
use Rattle.cocoon_types.specs.Runs.{Loc, Walk, world}
use Rattle.cocoon_types.specs.Tables.{Defs}

-- some choices lead from one location to another of the sink, with at most so many bodies
abbrev pub MayIn : (bodies level : ℕ) → Design → Defs → Loc → Packet → Loc → Packet → Type 0
MayIn bodies level d defs from packet to sent =
    (n : ℕ) × (n ≤ bodies) × (choices : List ℕ)
    × Walk (world level d defs) n from packet choices to sent
