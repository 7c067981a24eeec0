-- Cited by the clauses of the laws of levels: what a refinement owes. What its segments reach, the
-- level above can reach too, and they have left the new roles after as many bodies as the block
-- allows. Both are facts on single runs. They follow the section "Refinement" of docs/LANGUAGE.md.
-- The roles that a block refines are old, and those that it declares are new; `Segments` beside this
-- file says so, and what a segment is.
use Rattle.std.specs.Prelude.{◌≡◌, ℕ, suc, ◌≤◌, List, Some, slice_get}
use Rattle.cocoon_num.specs.PacketForms.{PacketFits}
use Rattle.cocoon_num.specs.Packets.{Packet}
use Rattle.cocoon_num.specs.Tree.{Refine, Design}
use Rattle.cocoon_types.specs.Design.{layout}
use Rattle.cocoon_types.specs.Runs.{Loc, Go, world}
use Rattle.cocoon_types.specs.Tables.{Defs}
use Rattle.refinement.specs.Assumptions.{AreDefinitions, Meets}
use Rattle.refinement.specs.Segments.{IsNew, IsOld, Segment}

-- for what both are owed at a level: definitions that meet every assumption of levels up to it, and
-- packets of the design's layout
pub record Given (level : ℕ) (d : Design) (defs : Defs) (packet : Packet) : Type 0 where
  pub defined : AreDefinitions d defs
  pub meets : Meets level d defs
  pub fits : PacketFits (layout d) packet

-- each location of an old role, or of the sink, that a segment of at most as many bodies as the
-- block allows reaches, with the packet that it sends there, the body of the level above gives
-- under some choices
abbrev pub Contained : (above : ℕ) → Design → Refine → Type 0
Contained above d block =
    (defs : Defs) (from : Loc) (packet : Packet) (cs : List ℕ) (n : ℕ) (to : Loc)
    (sent : Packet) → Given (suc above) d defs packet → n ≤ block.within
    → Segment above d block defs from packet cs n to sent → IsOld above d to
    → (choices : List ℕ) × Go (world above d defs) from packet choices to sent

-- no segment of as many bodies as the block allows leads to a new role
abbrev pub Within : (above : ℕ) → Design → Refine → Type 0
Within above d block =
    (defs : Defs) (from : Loc) (packet : Packet) (cs : List ℕ) (to : Loc) (sent : Packet)
    → Given (suc above) d defs packet
    → Segment above d block defs from packet cs block.within to sent → IsNew above d to → ⊥

-- every block of the design is contained and bounded; the first one stands behind level 0
pub record Refines (d : Design) : Type 0 where
  pub contained : (above : ℕ) (block : Refine)
      → slice_get d.refines above ≡ Some block → Contained above d block
  pub bounded : (above : ℕ) (block : Refine)
      → slice_get d.refines above ≡ Some block → Within above d block
