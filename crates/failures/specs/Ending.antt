-- Cited by private clauses: where the segment ends that begins so.
use Rattle.std.specs.Prelude.{◌≡◌, ℕ, ◌-◌, List, Option, Some, slice_get}
use Rattle.cocoon_num.specs.Tree.{Design, Refine}
use Rattle.cocoon_num.specs.declared.fun_table.FunTable.{FunTable}
use Rattle.role_meaning.specs.Follows.{Follows}
use Rattle.role_meaning.specs.declared.following.Followed.{Followed}
use Rattle.failures.specs.Found.{defined}
use Rattle.failures.specs.declared.failure.Begin.{Begin}

-- it is where the segment of this level's block ends, under the definitions of the text of the tables
abbrev pub Ends : (level : ℕ) → Design → List (Option FunTable) → Begin → Option Followed → Type 0
Ends level d tables b end =
    (block : Refine) → slice_get d.refines (level - 1) ≡ Some block
    → Follows (level - 1) d block (defined d tables) b.at b.packet b.choices end
