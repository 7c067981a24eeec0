-- Cited by the clauses of what finds a failure and of what prints one: runs that show that a refinement does not hold, by single
-- runs alone. A block stands behind the level `above`, so its own level is the next one. It follows the section "Refinement" of
-- docs/LANGUAGE.md.
use Rattle.std.specs.Prelude.{◌≡◌, ℕ, suc, ◌≤◌, List, Some, slice_get}
use Rattle.cocoon_num.specs.Packets.{Packet}
use Rattle.cocoon_num.specs.Tree.{Design, Refine}
use Rattle.cocoon_types.specs.Runs.{Loc, world}
use Rattle.cocoon_types.specs.Tables.{Defs}
use Rattle.refinement.specs.Owed.{Given}
use Rattle.refinement.specs.Segments.{IsNew, IsOld, Segment}
use Rattle.refinement.specs.Sending.{CanSend}

-- The definitions; where the run begins, with which packet and which choices; where it leads, and the packet that it sends there.
pub record Failure : Type 0 where
  pub defs : Defs
  pub at : Loc
  pub packet : Packet
  pub choices : List ℕ
  pub to : Loc
  pub sent : Packet

-- The definitions meet the assumptions up to the block's level, and the packet fits the design. With these choices a segment of at
-- most as many bodies as the block allows leads to an old role, or to the sink, and the body of the level above sends that under
-- no choices.
pub record IsRefuted (above : ℕ) (d : Design) (block : Refine) (f : Failure) : Type 0 where
  pub given : Given (suc above) d f.defs f.packet
  pub bodies : ℕ
  pub within : bodies ≤ block.within
  pub segment : Segment above d block f.defs f.at f.packet f.choices bodies f.to f.sent
  pub old : IsOld above d f.to
  pub unsent : CanSend (world above d f.defs) f.at f.packet f.to f.sent → ⊥

-- Likewise, and a segment of as many bodies as the block allows leads to a new role.
pub record IsOver (above : ℕ) (d : Design) (block : Refine) (f : Failure) : Type 0 where
  pub given : Given (suc above) d f.defs f.packet
  pub segment : Segment above d block f.defs f.at f.packet f.choices block.within f.to f.sent
  pub new : IsNew above d f.to

-- ---- of a level

-- the block of this level fails so
pub record OfLevel (fault : (above : ℕ) → Design → Refine → Failure → Type 0) (level : ℕ) (d : Design) (f : Failure) : Type 0 where
  pub above : ℕ
  pub block : Refine
  pub behind : level ≡ suc above
  pub there : slice_get d.refines above ≡ Some block
  pub fails : fault above d block f
