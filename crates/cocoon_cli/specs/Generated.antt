-- Cited by the clause `generated` of `run`. What a `gen` that succeeds prints: of the packets that are stated
-- for so many hosts it counts those that the last level of the design delivers, under the definitions that are
-- stated. It follows "Generated networks" in docs/FORMATS.md.
use Rattle.std.specs.Prelude.{◌≡◌, ℕ, List, Option, Some, None}
use Rattle.cocoon_io.specs.Calls.{appended}
use Rattle.cocoon_io.specs.Files.{Files}
use Rattle.cocoon_num.specs.Reads.{Reads, ReadsDefs}
use Rattle.cocoon_num.specs.Tree.{Design, DefsText}
use Rattle.cocoon_types.specs.DefsRules.{DefsFit}
use Rattle.cocoon_types.specs.Rules.{WellFormed}
use Rattle.cocoon_types.specs.Tables.{defs_of}
use Rattle.generator.specs.Arriving.{IsReached}
use Rattle.generator.specs.Counting.{IsCount}
use Rattle.command_line.specs.Command.{Command, gen}
use Rattle.command_answers.specs.ReportLines.{generated_line}
use Rattle.command_answers.specs.Steps.{generated_definitions, generated_design}

-- The lines tell how many of so many packets are delivered, within 16 visits.
pub record Generated (hosts packets : ℕ) (lines : List ℕ) : Type 0 where
  pub design : Design
  pub entries : DefsText
  pub design_reads : Reads generated_design design
  pub well_formed : WellFormed design
  pub defs_read : ReadsDefs (generated_definitions hosts) entries
  pub defs_fit : DefsFit design entries
  pub delivered : ℕ
  pub counts : IsCount (IsReached design (defs_of design entries) hosts) packets delivered
  pub told : lines ≡ generated_line hosts packets delivered

-- They are printed, and the folder is as it was. Of a command that generates nothing there is nothing to say.
abbrev pub GeneratedOf : Option Command → (was is : Option Files)
    → (before after : Option (List ℕ)) → Type 0
GeneratedOf None was is before after = ⊥
GeneratedOf (Some (gen hosts packets)) was is before after =
    (lines : List ℕ) × Generated hosts packets lines × (after ≡ appended before lines)
    × (is ≡ was)
GeneratedOf (Some asked) was is before after = Unit {0}
