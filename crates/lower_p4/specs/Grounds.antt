-- Cited by the laws of `laws`: what is known of a design that was read, with definitions of a text.
use Rattle.std.specs.Prelude.{◌≡◌, ◌<◌, ◌^◌, ℕ, false, nat_lt, IsTrue, length, slice_get, Some, None}
use Rattle.cocoon_num.specs.Spelled.{is_spelled}
use Rattle.cocoon_num.specs.Tree.{Design, DefsText}
use Rattle.cocoon_resolve.specs.Resolved.{WasRead}
use Rattle.cocoon_types.specs.Rules.{WellFormed}
use Rattle.lowering_correct.specs.Counts.{FirstOver}
use Rattle.p4_emit.specs.Printed.{printed}
use Rattle.p4_ir.specs.FileSizes.{most_file_bytes}
use Rattle.p4_ir.specs.NetTree.{SwitchFiles}
use Rattle.p4_ir.specs.P4Tree.{Program}
use Rattle.runtime_defs.specs.Fitting.{FitsDesign}
use Rattle.runtime_defs.specs.Places.{Places}
use Rattle.sound_types.specs.Literals.{DesignLiteralsFit}
use Rattle.lower_p4.specs.Lowers.{RunsProgram}
use Rattle.lower_p4.specs.OfText.{AreOfText}

-- the design was read and keeps the rules, and the tables are those of the definitions of a text
pub record Grounds (design : Design) (defs : DefsText) (tables : Places) : Type 0 where
  pub read : WasRead design
  pub words : IsTrue (is_spelled design)
  pub rules : WellFormed design
  pub literals : DesignLiteralsFit design
  pub fits : FitsDesign design tables
  pub of_text : AreOfText design defs tables

-- No limit is exceeded, and the text of the program of the first switch, if there is one, fits its file.
pub record FirstFits (d : Design) (places : Places) : Type 0 where
  pub within : FirstOver d places None
  pub fits : (switch : ℕ) → slice_get within.switches 0 ≡ Some switch → (p : Program) → RunsProgram d switch p → nat_lt most_file_bytes (length (printed p)) ≡ false

-- the program's meta fields are as many as memory holds
abbrev pub HoldsFields : SwitchFiles → Type 0
HoldsFields s = length s.program.meta < 2 ^ 63
