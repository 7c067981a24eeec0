-- The laws, put together from what the crates below give.
use Rattle.std.proofs.Common.{◌≡◌, ℕ, suc, ◌≤◌, List, Some, sym, subst, arith}
use Rattle.std.specs.Prelude.{slice_get}
use Rattle.cocoon_num.specs.PacketForms.{PacketFits}
use Rattle.cocoon_num.specs.Packets.{enter, Layout, Packet}
use Rattle.cocoon_num.specs.Tree.{DefsText, Refine, Role, Design}
use Rattle.cocoon_types.specs.Design.{last_level, layout, role_at}
use Rattle.cocoon_types.specs.Rules.{WellFormed}
use Rattle.cocoon_types.specs.Runs.{LastGo, Loc, MayMake, Walk, world}
use Rattle.cocoon_types.specs.Tables.{Defs, defs_of}
use Rattle.cocoon_types.specs.Taken.{RunsAreTaken}
use Rattle.refinement.specs.Delivering.{MayIn}
use Rattle.refinement.proofs.AllLevels.{may_make, one_or_more, to_top}
use Rattle.refinement.proofs.Down.{level_down}
use Rattle.refinement.specs.Assumptions.{AreDefinitions, Meets}
use Rattle.refinement.specs.Owed.{Contained, Refines, Within}
use Rattle.refinement.specs.Segments.{IsOld}
use Rattle.sound_types.specs.Defined.{HasDefinitions}
use Rattle.sound_types.specs.Literals.{DesignLiteralsFit}
use Rattle.sound_types.specs.Soundness.{KeepsTypes}
use Rattle.sound_types.specs.WellTyped.{IsTypedRole}

-- roles are well typed
abbrev pub RolesTyped : Type 0
RolesTyped = (d : Design) → WellFormed d → DesignLiteralsFit d → (level : ℕ) (name : List ℕ) (r : Role) → role_at level d name ≡ Some r → IsTypedRole d level r

-- runs under the definitions of a text keep types
abbrev pub RunsKeepTypes : Type 0
RunsKeepTypes = (d : Design) (es : DefsText) → HasDefinitions d es → (level : ℕ) → KeepsTypes level d (world level d (defs_of d es))

-- bytes that enter give a packet of the layout
abbrev pub EntersFitting : Type 0
EntersFitting = (layout : Layout) (bytes : List ℕ) (packet : Packet) (payload : List ℕ) → enter layout bytes ≡ Some (packet, payload) → PacketFits layout packet

pub keeps_types : RunsKeepTypes → (d : Design) (defs : Defs) → WellFormed d → DesignLiteralsFit d → AreDefinitions d defs → (level : ℕ) → KeepsTypes level d (world level d defs)
keeps_types keep d defs w l are level =
    subst (λ x. KeepsTypes level d (world level d x)) (sym are.are) (keep d are.entries (record { rules = w; literals = l; fits = are.fit; values_fit = are.values_fit }) level)

pub down : RunsAreTaken → RolesTyped → RunsKeepTypes → (d : Design) (above : ℕ) (block : Refine) (defs : Defs) → WellFormed d → DesignLiteralsFit d → slice_get d.refines above ≡ Some block
    → Contained above d block → Within above d block → AreDefinitions d defs → Meets (suc above) d defs
    → (bodies : ℕ) (from : Loc) (packet : Packet) (cs : List ℕ) (to : Loc) (sent : Packet) → PacketFits (layout d) packet → IsOld above d from
    → Walk (world (suc above) d defs) bodies from packet cs to sent → MayIn bodies above d defs from packet to sent
down taken typed keep d above block defs w l at contained bounded are meets n =
    level_down above d block defs (record {
      rules = w;
      at = at;
      some = one_or_more d w above block at;
      taken = taken;
      typed = typed d w l above;
      fitting = keeps_types keep d defs w l are above;
      defined = are;
      meets = meets;
      contained = contained;
      bounded = bounded;
    }) n n (omega arith)

pub all_down : RunsAreTaken → RolesTyped → RunsKeepTypes → (d : Design) (defs : Defs) → WellFormed d → DesignLiteralsFit d → Refines d → AreDefinitions d defs
    → (level : ℕ) → level ≤ last_level d → Meets level d defs
    → (bodies : ℕ) (from : Loc) (packet : Packet) (cs : List ℕ) (to : Loc) (sent : Packet) → PacketFits (layout d) packet → IsOld 0 d from
    → Walk (world level d defs) bodies from packet cs to sent → MayIn bodies 0 d defs from packet to sent
all_down taken typed keep d defs w l refines are = to_top d defs w taken (typed d w l) (keeps_types keep d defs w l are) are refines

pub deliver : RunsAreTaken → RolesTyped → RunsKeepTypes → EntersFitting → (d : Design) (defs : Defs) → WellFormed d → DesignLiteralsFit d → Refines d → AreDefinitions d defs → Meets (last_level d) d defs
    → (a : ℕ) (bytes cs : List ℕ) (n b : ℕ) (out : List ℕ) → LastGo d defs a bytes cs n b out → MayMake d defs a bytes b out
deliver taken typed keep entered d defs w l refines are = may_make d defs w taken (typed d w l) (keeps_types keep d defs w l are) are refines (entered (layout d))
