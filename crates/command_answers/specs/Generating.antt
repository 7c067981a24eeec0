-- Cited by the clauses of generate.rt. The network of a bundle that is written in memory, and the packets that are sent through it;
-- or why there are none.
use Rattle.std.specs.Prelude.{◌≡◌, ◌⊎◌, ◌≤◌, ℕ, suc, List}
use Rattle.cocoon_num.specs.declared.limit_name.LimitName.TheVariants.{Copies}
use Rattle.generator.specs.Arriving.{Arrives}
use Rattle.generator.specs.Counting.{IsCount}
use Rattle.generator.specs.Stopping.{AllWithin, SomeOver}
use Rattle.net_bundle.specs.Bundle.{MadeFile}
use Rattle.net_bundle.specs.Writing.{AllFit, FirstOver}
use Rattle.net_bundle.specs.declared.file.BundleFile.{BundleFile}
use Rattle.net_run.specs.RunCounts.{most_runs}
use Rattle.p4_ir.specs.NetTree.{NetData}
use Rattle.command_reports.specs.declared.refusal.Refusal.{Refusal}
use Rattle.command_reports.specs.declared.refusal.Refusal.TheVariants.{OverLimit, NoMemory}
use Rattle.command_answers.specs.ReportLines.{generated_line}
use Rattle.command_answers.specs.Steps.{is_long}

-- why these files are not all written in memory: one is too long, or there was no memory
abbrev pub NotHeld : List MadeFile → Refusal → Type 0
NotHeld files r =
    (r ≡ NoMemory) ⊎ ((file : BundleFile) × FirstOver files file × (r ≡ is_long file))

-- so many of the packets are delivered, and the copies of each make no more runs than they may
pub record Counts (net : NetData) (hosts packets delivered : ℕ) : Type 0 where
  pub counted : IsCount (Arrives net hosts) packets delivered
  pub within : AllWithin net hosts packets

-- why they are not counted: the copies of one make more runs, or there was no memory
abbrev pub NotCounted : NetData → (hosts packets : ℕ) → Refusal → Type 0
NotCounted net hosts packets r =
    (r ≡ NoMemory) ⊎ (SomeOver net hosts packets × (r ≡ OverLimit Copies (suc most_runs)))

-- the lines tell how many are delivered
pub record TellsCount (net : NetData) (hosts packets : ℕ) (lines : List ℕ) : Type 0 where
  pub delivered : ℕ
  pub counts : Counts net hosts packets delivered
  pub told : lines ≡ generated_line hosts packets delivered

-- why nothing is told of them: a file is too long, or they are not counted
abbrev pub NotTold : List MadeFile → NetData → (hosts packets : ℕ) → Refusal → Type 0
NotTold files net hosts packets r =
    NotHeld files r ⊎ (AllFit files × NotCounted net hosts packets r)
