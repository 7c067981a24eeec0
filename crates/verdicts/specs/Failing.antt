-- Cited by the clause of `decide`, by that of the law here, and by the steps of commands: runs by which an obligation is known not
-- to hold. They follow the section "Refinement" of docs/LANGUAGE.md.
use Rattle.std.specs.Prelude.{◌≡◌, ℕ, List, Some, slice_get}
use Rattle.cocoon_num.specs.Tree.{Design}
use Rattle.bv_terms.specs.declared.node.Node.{Node}
pub use Rattle.failure_reading.specs.Witnesses.{GoesBy}
pub use Rattle.failure_reading.specs.OfObligation.{Fails}
use Rattle.failures.specs.Failures.{Failure, OfLevel}
use Rattle.failures.specs.Found.{failure_of, FailureFits}
use Rattle.failures.specs.declared.failure.Failure as code
use Rattle.obligation_gen.specs.Shown.{ShowsObligation}
use Rattle.obligation_gen.specs.declared.obligation.Kind as code_kind
use Rattle.obligation_gen.specs.declared.obligation.Obligation as code_obligation
use Rattle.obligation_laws.specs.Obligations.{Obligation, all_obligations}

-- a run of the obligation's role along the way of its leaf shows that the block of its level does not keep what it owes
pub record FailsBy (d : Design) (o : Obligation) (f : Failure) : Type 0 where
  pub role : f.at.role ≡ o.role
  pub fails : OfLevel (Fails o.kind) o.level d f
  pub along : OfLevel (GoesBy o.leaf.way) o.level d f

-- ---- of the code

-- each of those that it shows fails by the run
abbrev pub FailsHere : Design → List Node → code_obligation.Obligation → Failure → Type 0
FailsHere d nodes o f =
    (n : ℕ) (owed : Obligation) → slice_get (all_obligations d) n ≡ Some owed
    → ShowsObligation d nodes o owed → FailsBy d owed f

-- an obligation of this kind fails by a run that is of the design and of its level
pub record IsFailureOf (d : Design) (nodes : List Node) (o : code_obligation.Obligation) (kind : code_kind.Kind) (f : code.Failure) : Type 0 where
  pub kind_ : o.kind ≡ kind
  pub fits : FailureFits o.level d f
  pub fails : FailsHere d nodes o (failure_of d f)
