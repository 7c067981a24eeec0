-- Cited by the clause of `follow`: which segment some choices make.
use Rattle.std.specs.Prelude.{◌≡◌, ℕ, ◌≤◌, List, Option, Some, None}
use Rattle.cocoon_num.specs.Packets as packets
use Rattle.cocoon_num.specs.Tree.{Design, Refine}
use Rattle.cocoon_types.specs.Runs as runs
use Rattle.cocoon_types.specs.Tables.{Defs}
use Rattle.refinement.specs.Segments.{is_new, IsNew, Segment}
use Rattle.role_meaning.specs.Located.{loc_of, sent_of}
use Rattle.role_meaning.specs.declared.place.Loc.{Loc}
use Rattle.role_meaning.specs.declared.place.Packet.{Packet}
use Rattle.role_meaning.specs.declared.following.Followed.{Followed}

-- a segment of at most as many bodies as the block allows, which has left the new roles or has as many
pub record Stops (above : ℕ) (d : Design) (block : Refine) (defs : Defs) (from : runs.Loc) (packet : packets.Packet) (choices : List ℕ) (bodies : ℕ) (to : runs.Loc) (sent : packets.Packet) : Type 0 where
  pub segment : Segment above d block defs from packet choices bodies to sent
  pub within : bodies ≤ block.within
  pub stops : IsNew above d to → bodies ≡ block.within

-- all of these choices make this segment, or they make none
abbrev pub Follows : (above : ℕ) → Design → Refine → Defs → Loc → Packet → List ℕ → Option Followed → Type 0
Follows above d block defs from packet choices (Some f) =
    Stops above d block defs (loc_of d from) (sent_of d packet) choices f.bodies (loc_of d f.to) (sent_of d f.sent)
    × (f.is_new ≡ is_new above d (loc_of d f.to).role)
Follows above d block defs from packet choices None =
    (bodies : ℕ) (to : runs.Loc) (sent : packets.Packet) → Stops above d block defs (loc_of d from) (sent_of d packet) choices bodies to sent → ⊥
