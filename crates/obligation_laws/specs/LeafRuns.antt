-- Cited by the clauses of the laws `leaves_are_runs` and `runs_have_leaves`: a leaf and the runs of its way, for given
-- inputs.
use Rattle.std.specs.Prelude.{◌≡◌, ℕ, List, ◌++◌, Option, Some, slice_get}
use Rattle.cocoon_num.specs.Packets.{Packet}
use Rattle.cocoon_num.specs.Tree.{HeaderDecl}
use Rattle.cocoon_types.specs.Runs.{Loc}
use Rattle.refinement.specs.Ways.{Arrival}
use Rattle.bv_terms.specs.TermValues.{Functions, Inputs}
use Rattle.role_values.specs.Flat.{packet_of}
use Rattle.obligation_laws.specs.Leaves.{Leaf, Tree}
use Rattle.obligation_laws.specs.Meant.{AllFit, IsOne, arrives, given}

-- bodies that run from a location, with a packet and some choices
abbrev pub BodiesRun : Type 0
BodiesRun = Loc → Packet → List ℕ → Option Arrival

-- where the tree's runs begin
abbrev pub first_loc : Inputs → (role : List ℕ) → Tree → Loc
first_loc ins role tree = record { role = role; values = given ins tree.args }

abbrev pub first_packet : Inputs → List HeaderDecl → Tree → Packet
first_packet ins headers tree = packet_of headers (given ins tree.fields)

-- If the condition is true, the run with the leaf's choices takes its way and ends as it says, whatever choices follow;
-- and it is true, if the run with them takes its way.
pub record IsItsRun (F : Functions) (ins : Inputs) (headers : List HeaderDecl) (run : List ℕ → Option Arrival) (leaf : Leaf) : Type 0 where
  pub runs : IsOne F ins leaf.cond → (rest : List ℕ) → run (given ins leaf.choices ++ rest) ≡ Some (arrives F ins headers leaf rest)
  pub only : (rest : List ℕ) (led : Arrival) → run (given ins leaf.choices ++ rest) ≡ Some led → led.way ≡ leaf.way → IsOne F ins leaf.cond

-- each leaf of the tree is true exactly at the runs of its way
abbrev pub LeavesAreRuns : Functions → List HeaderDecl → (role : List ℕ) → Tree → BodiesRun → Type 0
LeavesAreRuns F headers role tree run =
    (ins : Inputs) → AllFit ins tree.args → AllFit ins tree.fields
    → (n : ℕ) (leaf : Leaf) → slice_get tree.leaves n ≡ Some leaf → AllFit ins leaf.choices
    → IsItsRun F ins headers (run (first_loc ins role tree) (first_packet ins headers tree)) leaf

-- A leaf of a run: the run goes its way, and there are inputs, those given but for choices, at which it is true, uses
-- these choices and ends as the run does.
pub record HasLeaf (F : Functions) (ins : Inputs) (headers : List HeaderDecl) (tree : Tree) (choices : List ℕ) (led : Arrival) : Type 0 where
  pub number : ℕ
  pub leaf : Leaf
  pub there : slice_get tree.leaves number ≡ Some leaf
  pub inputs : Inputs
  pub same_args : given inputs tree.args ≡ given ins tree.args
  pub same_fields : given inputs tree.fields ≡ given ins tree.fields
  pub fit : AllFit inputs leaf.choices
  pub used : choices ≡ given inputs leaf.choices ++ led.rest
  pub true_ : IsOne F inputs leaf.cond
  pub ends : arrives F inputs headers leaf led.rest ≡ led

-- each run has its leaf
abbrev pub RunsHaveLeaves : Functions → List HeaderDecl → (role : List ℕ) → Tree → BodiesRun → Type 0
RunsHaveLeaves F headers role tree run =
    (ins : Inputs) → AllFit ins tree.args → AllFit ins tree.fields
    → (choices : List ℕ) (led : Arrival) → run (first_loc ins role tree) (first_packet ins headers tree) choices ≡ Some led
    → HasLeaf F ins headers tree choices led
