-- Cited by the clauses of `resolve` and by the invariant of `Checked`: which designs were read, which keep the rules and the
-- limits, and why one is refused. It follows the sections "Texts", "Rules of a design" and "Limits" of docs/LANGUAGE.md.
use Rattle.std.specs.Prelude.{ℕ, List, Some}
use Rattle.cocoon_num.specs.Reads.{Reads}
use Rattle.cocoon_num.specs.Tree.{Design}
use Rattle.cocoon_types.specs.Rules.{WellFormed}
use Rattle.cocoon_types.specs.Limits.{WithinLimits}
use Rattle.cocoon_types.specs.FirstFault.{FirstFault}
use Rattle.cocoon_types.specs.RuleNames.{fault_at}
use Rattle.cocoon_resolve.specs.First.{IsFirstOver}
use Rattle.cocoon_resolve.specs.declared.fault.TypeFault.{TypeFault}
use Rattle.cocoon_resolve.specs.declared.fault.TypeFault.TheVariants.{Rule, Limit, NoMemory}

-- the design is the tree of a text
abbrev pub WasRead : Design → Type 0
WasRead d = (text : List ℕ) × Reads text d

-- the design keeps all rules, and is within all limits
pub record Resolves (d : Design) : Type 0 where
  pub rules : WellFormed d
  pub limits : WithinLimits d

-- Why a design is refused, out of memory aside: the first fault by its rules; or, where it keeps them all, the first limit
-- that it is over, with the count as it is reported.
abbrev pub IsRefused : Design → TypeFault → Type 0
IsRefused d (Rule rule at) = FirstFault d (fault_at rule at)
IsRefused d (Limit name count) = WellFormed d × IsFirstOver d (Some (name, count))
IsRefused d NoMemory = Unit {0}
