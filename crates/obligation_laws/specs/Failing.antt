-- Cited by the clauses of the laws of this crate and by those of code that decides obligations: terms that are never true, and
-- leaves that never fail. The second speaks of single runs alone.
use Rattle.std.specs.Prelude.{◌≡◌, ℕ, suc, List, Some, slice_get}
use Rattle.cocoon_num.specs.Packets.{Packet}
use Rattle.cocoon_num.specs.Tree.{Refine, Design}
use Rattle.cocoon_types.specs.Runs.{Go, Loc, world}
use Rattle.cocoon_types.specs.Tables.{Defs}
use Rattle.refinement.specs.Assumptions.{AreDefinitions, Meets}
use Rattle.refinement.specs.Owed.{Given}
use Rattle.refinement.specs.Ways.{Arrival, Way, hops_by}
use Rattle.bv_terms.specs.Inputs.{InputsFit}
use Rattle.bv_terms.specs.TermTrees.{Term}
use Rattle.bv_terms.specs.TermValues.{Inputs}
use Rattle.obligation_laws.specs.Shown.{functions_by}
use Rattle.obligation_laws.specs.Meant.{IsOne}
use Rattle.obligation_laws.specs.Obligations.{Kind, contained, bounded, Obligation}

-- under no definitions that meet the assumptions up to this level is the term true, whatever numbers its inputs have that
-- fit them
abbrev pub NeverTrue : (level : ℕ) → Design → Term → Type 0
NeverTrue level d t =
    (defs : Defs) → AreDefinitions d defs → Meets level d defs
    → (ins : Inputs) → InputsFit t ins → IsOne (functions_by d defs) ins t → ⊥

-- where a run of the block's level has led is no failure: the body of the level above sends it under some choices; or no run
-- may lead there
abbrev pub IsKept : (above : ℕ) → Design → Defs → Kind → (from : Loc) (packet : Packet) → Arrival → Type 0
IsKept above d defs contained from packet led =
    (choices : List ℕ) × Go (world above d defs) from packet choices led.to led.sent
IsKept above d defs bounded from packet led = ⊥

-- For all definitions that meet the assumptions: no run of the role, followed through as many bodies as the block allows,
-- fails along this way.
abbrev pub NoRunFails : (above : ℕ) → Design → Refine → (role : List ℕ) → Way → Kind → Type 0
NoRunFails above d block role way kind =
    (defs : Defs) (from : Loc) (packet : Packet) (choices : List ℕ) (led : Arrival)
    → Given (suc above) d defs packet → from.role ≡ role
    → hops_by above d defs block.within from packet choices ≡ Some led → led.way ≡ way
    → IsKept above d defs kind from packet led

-- the obligation's leaf never fails
abbrev pub NeverFails : Design → Obligation → Type 0
NeverFails d o =
    (above : ℕ) (block : Refine) → o.level ≡ suc above → slice_get d.refines above ≡ Some block
    → NoRunFails above d block o.role o.leaf.way o.kind
