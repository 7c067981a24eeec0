-- Cited by the clauses of the laws of this crate: inputs at which the formula of an obligation is true, and the run that begins
-- with their values.
use Rattle.std.specs.Prelude.{◌≡◌, ℕ, List, [], Some}
use Rattle.bv_terms.specs.declared.node.Node.{Node}
use Rattle.bv_terms.specs.Arenas.{IsArena, term_at}
use Rattle.bv_terms.specs.Inputs.{Mentions}
use Rattle.bv_terms.specs.TermTrees.{Term}
use Rattle.bv_terms.specs.TermValues.{Inputs}
use Rattle.query_laws.specs.Candidates.{MakeTrue}
use Rattle.cocoon_num.specs.Tree.{Design, Refine}
pub use Rattle.failure_reading.specs.OfObligation.{AreShort, begin_of, choices_of, Fails}
use Rattle.failures.specs.Failures as laws
use Rattle.failures.specs.Failures.{OfLevel}
use Rattle.failures.specs.Found.{BeginsSo}
use Rattle.failures.specs.declared.failure.Begin.{Begin}
use Rattle.obligation_gen.specs.Owed.{IsOwed}
use Rattle.obligation_gen.specs.Shown.{kind_in}
use Rattle.obligation_gen.specs.declared.obligation.Obligation.{Obligation}
use Rattle.refinement.specs.Ways.{Way, hops_by}
use Rattle.bv_terms.specs.WithRows.{Tables}

-- ---- inputs

-- inputs that the term does not have are 0
abbrev pub OthersAreZero : Term → Inputs → Type 0
OthersAreZero t ins = (i : ℕ) → ((w : ℕ) → Mentions t i w → ⊥) → ins i ≡ 0

-- In an arena the design owes the obligation. Its formula is true under the tables at these numbers, which fit it; those of all
-- other inputs are 0.
pub record IsTrueFor (d : Design) (tables : Tables) (o : Obligation) (ins : Inputs) : Type 0 where
  pub nodes : List Node
  pub arena : IsArena nodes
  pub owed : IsOwed d nodes o
  pub true_ : MakeTrue tables ins (term_at nodes o.formula)
  pub others : OthersAreZero (term_at nodes o.formula) ins

-- ---- how it fails

-- a run that goes this way, and makes no other choices
abbrev pub GoesBy : Way → (above : ℕ) → Design → Refine → laws.Failure → Type 0
GoesBy way above d block f =
    hops_by above d f.defs block.within f.at f.packet f.choices
    ≡ Some (record { to = f.to; sent = f.sent; rest = []; way = way })

-- a failure of the obligation's level begins so, and goes this way
pub record HasFailure (d : Design) (tables : Tables) (o : Obligation) (way : Way) (b : Begin)
    : Type 0 where
  pub failure : laws.Failure
  pub begins : BeginsSo d tables b failure
  pub fails : OfLevel (Fails (kind_in o.kind)) o.level d failure
  pub along : OfLevel (GoesBy way) o.level d failure
