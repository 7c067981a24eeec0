-- Cited by the clauses of step.rt. The three texts of a step: what is reported of them, or why nothing
-- is.
use Rattle.std.specs.Prelude.{◌≡◌, ◌⊎◌, ◌≤◌, ◌<◌, ℕ, List, Option, Ok, Err}
use Rattle.cocoon_num.specs.Tree.{Design}
use Rattle.cocoon_types.specs.Design.{last_level}
use Rattle.cocoon_types.specs.Tables.{defs_of}
use Rattle.step_cases.specs.Cases.{Case, case_of}
use Rattle.runtime_defs.specs.Places.{Places}
use Rattle.command_reports.specs.declared.files.CommandFile.TheVariants.{Case as CaseFile}
use Rattle.command_reports.specs.declared.refusal.Refusal.{Refusal}
use Rattle.command_reports.specs.declared.refusal.Refusal.TheVariants.{NoLevel, Line, NoMemory}
use Rattle.step_cases.specs.Stepping.{Steps}
use Rattle.step_cases.specs.declared.sent.Sent.{Sent}
use Rattle.command_reports.specs.DesignTexts.{BindsTables, NotMatched}

-- why a text is no case of a design, at a level
abbrev pub NotCase : (level : ℕ) → Design → (text : List ℕ) → Refusal → Type 0
NotCase level d text (NoLevel n last) = (n ≡ level) × (last ≡ last_level d) × (last_level d < level)
NotCase level d text (Line file line) =
    (file ≡ CaseFile) × (level ≤ last_level d) × (case_of level d text ≡ Err line)
NotCase level d text NoMemory = Unit {0}
NotCase level d text r = ⊥

-- the texts are a design with definitions that fit it, and a case at a level; and this is what the
-- body does
pub record StepsTexts (level : ℕ) (design defs text : List ℕ) (sent : Option Sent) : Type 0 where
  pub tree : Design
  pub tables : Places
  pub binds : BindsTables design defs tree tables
  pub there : level ≤ last_level tree
  pub case : Case
  pub says : case_of level tree text ≡ Ok case
  pub steps : Steps level tree (defs_of tree binds.entries) case sent

-- why there is no step; the design is judged first, then the definitions
pub record NoCase (level : ℕ) (design defs text : List ℕ) (r : Refusal) : Type 0 where
  pub tree : Design
  pub tables : Places
  pub binds : BindsTables design defs tree tables
  pub not : NotCase level tree text r

abbrev pub NotStepped : (level : ℕ) → (design defs text : List ℕ) → Refusal → Type 0
NotStepped level design defs text r = NotMatched design defs r ⊎ NoCase level design defs text r
