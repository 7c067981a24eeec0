-- Cited by the clauses of what finds a failure and of what prints one: the failures that those of the code stand for.
use Rattle.std.specs.Prelude.{◌≡◌, ℕ, ◌-◌, List, Option, Some, All, slice_get}
use Rattle.cocoon_num.specs.PacketForms.{FieldsFit}
use Rattle.cocoon_num.specs.Tree.{DefsText, Design, Refine}
use Rattle.cocoon_num.specs.declared.fun_table.FunTable.{FunTable}
use Rattle.cocoon_resolve.specs.Readers.{field_widths, HasRole}
use Rattle.cocoon_types.specs.Tables.{Defs, defs_of}
use Rattle.runtime_defs.specs.Printable.{FitsDesign, IsMasked}
use Rattle.runtime_defs.specs.EntryPlaces.{entries_of_places}
use Rattle.refinement.specs.Assumptions.{Meets}
use Rattle.refinement.specs.Segments.{IsRefined}
use Rattle.role_meaning.specs.Located.{loc_of, sent_of}
use Rattle.runtime_defs.specs.Stands.{Stands}
use Rattle.sound_types.specs.Defined.{HasDefinitions}
use Rattle.failures.specs.Failures as laws
use Rattle.failures.specs.Failures.{OfLevel}
use Rattle.failures.specs.declared.failure.Begin.{Begin}
use Rattle.failures.specs.declared.failure.Failure.{Failure}

-- the definitions of the text of some tables
abbrev pub defined : Design → List (Option FunTable) → Defs
defined d tables = defs_of d (entries_of_places d tables)

-- the failure, whose definitions are those of the text of its tables
abbrev pub failure_of : Design → Failure → laws.Failure
failure_of d f = record {
  defs = defined d f.defs;
  at = loc_of d f.at;
  packet = sent_of d f.packet;
  choices = f.choices;
  to = loc_of d f.to;
  sent = sent_of d f.sent;
}

-- ---- what a failure is sought by

-- the definitions of each text for which the tables stand meet the assumptions of levels 0 to this one
abbrev pub AreMet : (level : ℕ) → Design → List (Option FunTable) → Type 0
AreMet level d tables =
    (es : DefsText) → HasDefinitions d es → Stands d tables (defs_of d es) → Meets level d (defs_of d es)

-- the tables are definitions of the design, which meet them
pub record CanFail (level : ℕ) (d : Design) (tables : List (Option FunTable)) : Type 0 where
  pub fit : FitsDesign d tables
  pub masked : All IsMasked tables
  pub met : AreMet level d tables

-- the role is there at the level, and the fields are as many as the design has and fit
pub record BeginFits (level : ℕ) (d : Design) (b : Begin) : Type 0 where
  pub role : HasRole d b.at.role level
  pub fields : FieldsFit (field_widths d) b.packet.fields

-- the block of the level refines the role
abbrev pub IsOfBlock : (level : ℕ) → Design → Begin → Type 0
IsOfBlock level d b = (block : Refine) → slice_get d.refines (level - 1) ≡ Some block → IsRefined block (loc_of d b.at)

-- ---- what is found

-- all that it holds is of the design and the level
pub record FailureFits (level : ℕ) (d : Design) (f : Failure) : Type 0 where
  pub defs : FitsDesign d f.defs
  pub at : HasRole d f.at.role level
  pub packet : FieldsFit (field_widths d) f.packet.fields
  pub to : HasRole d f.to.role level
  pub sent : FieldsFit (field_widths d) f.sent.fields

-- it has these definitions and begins so
pub record BeginsAt (tables : List (Option FunTable)) (b : Begin) (f : Failure) : Type 0 where
  pub defs : f.defs ≡ tables
  pub at : f.at ≡ b.at
  pub packet : f.packet ≡ b.packet
  pub choices : f.choices ≡ b.choices

-- the failure is under the definitions of the text of these tables, and begins so
pub record BeginsSo (d : Design) (tables : List (Option FunTable)) (b : Begin) (f : laws.Failure) : Type 0 where
  pub defs : f.defs ≡ defined d tables
  pub at : f.at ≡ loc_of d b.at
  pub packet : f.packet ≡ sent_of d b.packet
  pub choices : f.choices ≡ b.choices

-- under these definitions no failure begins so
abbrev pub NoneBegins : (fault : (above : ℕ) → Design → Refine → laws.Failure → Type 0) → (level : ℕ) → Design → List (Option FunTable) → Begin → Type 0
NoneBegins fault level d tables b = (f : laws.Failure) → BeginsSo d tables b f → OfLevel fault level d f → ⊥
