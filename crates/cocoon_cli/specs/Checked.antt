-- Cited by the clause `refined` of `run`. What a `check` that succeeds says of its design, and a `compile` and an `update` too: that it keeps
-- the rules, and that each of its blocks is contained and bounded, for all definitions that meet its assumptions. It follows
-- the section "Refinement" of docs/LANGUAGE.md.
use Rattle.std.specs.Prelude.{◌≡◌, ℕ, List, Option, Some, None}
use Rattle.std.specs.FinMap.{get}
use Rattle.cocoon_io.specs.Files.{Files}
use Rattle.cocoon_num.specs.Reads.{Reads}
use Rattle.cocoon_num.specs.Tree.{Design}
use Rattle.cocoon_types.specs.Rules.{WellFormed}
use Rattle.refinement.specs.Owed.{Refines}
use Rattle.command_line.specs.Command.{Command, check, compile, update}

-- the design of the text keeps the rules, and each of its blocks what it owes
pub record Checked (text : List ℕ) : Type 0 where
  pub design : Design
  pub reads : Reads text design
  pub well_formed : WellFormed design
  pub refines : Refines design

-- that of a file does, where the content of the folder is known
abbrev pub CheckedFile : (name : List ℕ) → Option Files → Type 0
CheckedFile name None = Unit {0}
CheckedFile name (Some files) = (text : List ℕ) × (get files name ≡ Some text) × Checked text

-- the same of a command; of one that decides no obligation there is nothing to say
abbrev pub RefinedOf : Option Command → Option Files → Type 0
RefinedOf None content = ⊥
RefinedOf (Some (check design conflicts rounds)) content = CheckedFile design content
RefinedOf (Some (compile design defs out conflicts rounds)) content = CheckedFile design content
RefinedOf (Some (update design defs out conflicts)) content = CheckedFile design content
RefinedOf (Some asked) content = Unit {0}
