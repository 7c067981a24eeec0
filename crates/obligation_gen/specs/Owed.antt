-- Cited by the clauses of code that decides obligations and checks certificates: obligations of the code that a design owes.
use Rattle.std.specs.Prelude.{◌≡◌, ℕ, List, Some, slice_get}
use Rattle.cocoon_num.specs.Tree.{Design}
use Rattle.bv_terms.specs.declared.node.Node.{Node}
use Rattle.obligation_gen.specs.Shown.{ShowsObligation}
use Rattle.obligation_gen.specs.declared.obligation.Obligation.{Obligation}
use Rattle.obligation_laws.specs.Failing.{NeverFails}
use Rattle.obligation_laws.specs.Obligations as laws
use Rattle.obligation_laws.specs.Obligations.{all_obligations}

-- it shows one of those that the design owes
pub record IsOwed (d : Design) (nodes : List Node) (o : Obligation) : Type 0 where
  pub number : ℕ
  pub owed : laws.Obligation
  pub there : slice_get (all_obligations d) number ≡ Some owed
  pub shown : ShowsObligation d nodes o owed

-- each of those that it shows never fails
abbrev pub NeverFailsHere : Design → List Node → Obligation → Type 0
NeverFailsHere d nodes o =
    (n : ℕ) (owed : laws.Obligation) → slice_get (all_obligations d) n ≡ Some owed
    → ShowsObligation d nodes o owed → NeverFails d owed
