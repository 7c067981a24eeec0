-- Cited by the clauses of the laws here and of `obligation_examples`: segments, which are the runs
-- of a role that a block refines, followed through the roles that are new in the block. The block
-- stands behind the level `above`, so its own level is the next one. It follows the section
-- "Refinement" of docs/LANGUAGE.md.
use Rattle.std.specs.Prelude.{◌≡◌, ℕ, zero, suc, ◌&&◌, Bool, true, not, List, [], ◌++◌, is_some}
use Rattle.cocoon_num.specs.Packets.{Packet}
use Rattle.cocoon_num.specs.Tree.{Refine, Design}
use Rattle.cocoon_types.specs.Design.{role_at}
use Rattle.cocoon_types.specs.RuleParts.{has_name}
use Rattle.cocoon_types.specs.Runs.{Loc, Go, world}
use Rattle.cocoon_types.specs.Tables.{Defs}

-- the role is declared at the level above or before it; the sink is
abbrev pub is_old : (above : ℕ) → Design → (role : List ℕ) → Bool
is_old above d role = is_some (role_at above d role)

-- the role is declared in the block and at no level above it
abbrev pub is_new : (above : ℕ) → Design → (role : List ℕ) → Bool
is_new above d role = is_some (role_at (suc above) d role) && not (is_old above d role)

-- a location of an old role
abbrev pub IsOld : (above : ℕ) → Design → Loc → Type 0
IsOld above d at = is_old above d at.role ≡ true

-- a location of a new role
abbrev pub IsNew : (above : ℕ) → Design → Loc → Type 0
IsNew above d at = is_new above d at.role ≡ true

-- a location of a role that the block refines
abbrev pub IsRefined : Refine → Loc → Type 0
IsRefined block at = has_name at.role block.roles ≡ true

-- so many bodies, each of a new role, lead from one location to another, with their choices joined
abbrev pub Through : (above : ℕ) → Design → Defs
    → Loc → Packet → List ℕ → ℕ → Loc → Packet → Type 0
Through above d defs from packet cs zero to sent = (cs ≡ []) × (to ≡ from) × (sent ≡ packet)
Through above d defs from packet cs (suc n) to sent =
    IsNew above d from
    × ((mid : Loc) × (between : Packet) × (first more : List ℕ)
    × Go (world (suc above) d defs) from packet first mid between
    × Through above d defs mid between more n to sent × (cs ≡ first ++ more))

-- so many bodies of the block's level lead from one location to another: the first is of a role
-- that the block refines, and each other of a new one
abbrev pub Segment : (above : ℕ) → Design → Refine → Defs
    → Loc → Packet → List ℕ → ℕ → Loc → Packet → Type 0
Segment above d block defs from packet cs zero to sent = ⊥
Segment above d block defs from packet cs (suc n) to sent =
    IsRefined block from
    × ((mid : Loc) × (between : Packet) × (first more : List ℕ)
    × Go (world (suc above) d defs) from packet first mid between
    × Through above d defs mid between more n to sent × (cs ≡ first ++ more))
