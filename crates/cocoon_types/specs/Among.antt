-- Cited by the clauses of all that notes faults by the token indices at which a rule fails, and the laws by which what is
-- noted of some lists of them is put together.
use Rattle.std.specs.Prelude.{ℕ, ◌==◌, ◌&&◌, Bool, List, [], ◌++◌, Option}
use Rattle.cocoon_num.specs.Lists.{has_number}
use Rattle.cocoon_types.specs.Rules.{Rule}
use Rattle.cocoon_types.specs.FirstFault.{Fault, rank}
use Rattle.cocoon_types.specs.Noting.{Notes}

-- a fault of a rule at one of some token indices
abbrev pub among : Rule → List ℕ → Fault → Bool
among rule ats f = (rank f.rule == rank rule) && has_number f.at ats

pub record AmongLaws : Type 0 where
  -- where there are no token indices, nothing is noted
  pub none : (rule : Rule) (a : Option Fault) → Notes (among rule []) a a
  -- some are noted, and then others
  pub append : (rule : Rule) (xs ys : List ℕ) (a b c : Option Fault)
      → Notes (among rule xs) a b → Notes (among rule ys) b c → Notes (among rule (xs ++ ys)) a c
