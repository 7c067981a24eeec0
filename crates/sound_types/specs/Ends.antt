-- Cited by the clauses of the laws of runs: locations that fit a level, and runs that end with variables, packets and
-- locations that fit.
use Rattle.std.specs.Prelude.{◌≡◌, ℕ, Some, None}
use Rattle.cocoon_num.specs.PacketForms.{FieldsFit, PacketFits}
use Rattle.cocoon_num.specs.Tree.{Block, no_stmts, stmt, Role, Design}
use Rattle.cocoon_types.specs.Design.{layout, role_at, widths_of}
use Rattle.cocoon_types.specs.Runs.{End, falls, sends, Loc}
use Rattle.cocoon_types.specs.Sites.{after_stmt}
use Rattle.cocoon_types.specs.Taken.{Ended, Reached}
use Rattle.cocoon_types.specs.Typing.{Scope}
use Rattle.sound_types.specs.Matching.{Matches}

-- the location's role is declared at the level, and its values fit the parameters
abbrev pub LocFits : (level : ℕ) → Design → Loc → Type 0
LocFits i d at = (r : Role) × (role_at i d at.role ≡ Some r) × FieldsFit (widths_of r.params) at.values

-- the scope after a block
abbrev pub after_block : Block → Scope → Scope
after_block no_stmts s = s
after_block (stmt first rest) s = after_block rest (after_stmt first s)

-- what falls matches the scope, and what is sent fits its level
abbrev pub EndFits : Scope → End → Type 0
EndFits s (falls env packet) = Matches s env packet
EndFits s (sends to packet) = LocFits s.level s.design to × PacketFits (layout s.design) packet

-- so does a run's end, where it has one
abbrev pub RunFits : Scope → Ended → Type 0
RunFits s None = Unit {0}
RunFits s (Some r) = EndFits s r.0

-- where a body's run leads, if anywhere, fits the level
abbrev pub ReachFits : (level : ℕ) → Design → Reached → Type 0
ReachFits i d None = Unit {0}
ReachFits i d (Some r) = LocFits i d r.0 × PacketFits (layout d) r.1
