-- Cited by the clauses `refuted` and `hop_bound` of `run`. What is printed where an obligation of a design fails: a run that shows
-- it, under definitions of the design that meet the assumptions up to its level. It follows "Reports" in docs/FORMATS.md.
use Rattle.std.specs.Prelude.{◌≡◌, ℕ, List, Option, Some, None, All, slice_get, take}
use Rattle.std.specs.FinMap.{get}
use Rattle.cocoon_io.specs.Calls.{appended}
use Rattle.cocoon_io.specs.Files.{Files}
use Rattle.cocoon_num.specs.Reads.{Reads}
use Rattle.cocoon_num.specs.Tree.{Design}
use Rattle.cocoon_types.specs.Rules.{WellFormed}
use Rattle.failures.specs.Failures.{Failure}
use Rattle.failures.specs.Told.{Tells}
use Rattle.obligation_laws.specs.Failing.{NeverFails}
use Rattle.obligation_laws.specs.Obligations.{Kind, Obligation, all_obligations}
use Rattle.verdicts.specs.Failing.{FailsBy}
use Rattle.command_line.specs.Command.{Command, check, compile, gen}
use Rattle.command_answers.specs.Owing.{word_of}
use Rattle.command_answers.specs.Steps.{generated_design}

-- The lines tell a failure of this kind of the design of the text.
pub record Failed (text : List ℕ) (kind : Kind) (lines : List ℕ) : Type 0 where
  pub design : Design
  pub reads : Reads text design
  pub well_formed : WellFormed design
  -- an obligation of the design; none before it ever fails
  pub number : ℕ
  pub obligation : Obligation
  pub is : slice_get (all_obligations design) number ≡ Some obligation
  pub kind_ : obligation.kind ≡ kind
  pub earlier : All (NeverFails design) (take number (all_obligations design))
  -- the run by which it fails
  pub failure : Failure
  pub fails : FailsBy design obligation failure
  pub told : Tells design (word_of kind) obligation.level obligation.number failure lines

-- they tell one of the design of a file, where the content of the folder is known
abbrev pub FailedFile : (name : List ℕ) → Option Files → Kind → (lines : List ℕ) → Type 0
FailedFile name None kind lines = Unit {0}
FailedFile name (Some files) kind lines =
    (text : List ℕ) × (get files name ≡ Some text) × Failed text kind lines

-- lines are printed, and tell a failure of the design of a command
abbrev pub FailedOf : Option Command → Option Files → Kind → (before after : Option (List ℕ)) → Type 0
FailedOf (Some (check design conflicts rounds)) content kind before after =
    (lines : List ℕ) × FailedFile design content kind lines × (after ≡ appended before lines)
FailedOf (Some (compile design defs out conflicts rounds)) content kind before after =
    (lines : List ℕ) × FailedFile design content kind lines × (after ≡ appended before lines)
FailedOf (Some (gen hosts packets)) content kind before after =
    (lines : List ℕ) × Failed generated_design kind lines × (after ≡ appended before lines)
FailedOf asked content kind before after = ⊥
