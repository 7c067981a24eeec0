-- Cited by private clauses: what nodes become whose applications become inputs.
use Rattle.std.specs.Prelude.{◌≡◌, ℕ, ◌+◌, ◌<◌, List, [], ◌∷◌, length}
use Rattle.std.specs.List.{AllZip}
use Rattle.bv_terms.specs.declared.node.Node.{Node}
use Rattle.bv_terms.specs.declared.node.Node.TheVariants.{Apply, Input}
use Rattle.bv_terms.specs.Arenas.{CanFollow, IsPut, inputs_in, node_width, term_at, width_at}
use Rattle.bv_terms.specs.TermTrees.{Term, IsWidth}
use Rattle.bv_terms.specs.Walks.{applications}
use Rattle.flat_laws.specs.Flat.{reduced}
use Rattle.flat_goals.specs.Applied.{IsApplied}
use Rattle.flat_goals.specs.declared.applied.Application.{Application}

-- the node can be put in, or an input of its width
abbrev pub CanReduce : List Node → Node → (width : ℕ) → Type 0
CanReduce nodes (Input i v) w = Unit {0}
CanReduce nodes (Apply f args v) w = IsWidth v
CanReduce nodes node w = CanFollow nodes node × (w ≡ node_width (width_at nodes) node)

-- what it is then: an application is the next input, and an input stays
abbrev pub IsReduced : (old new : List Node) → (own : ℕ) → Node → (id : ℕ) → Type 0
IsReduced old new own (Input i w) id = (id ≡ own) × (new ≡ old)
IsReduced old new own (Apply f args w) id =
    IsPut old new (Input (inputs_in old) w) id × (inputs_in new ≡ inputs_in old + 1)
IsReduced old new own node id = IsPut old new node id × (inputs_in new ≡ inputs_in old)

-- the application that a node is, if it is one
abbrev pub listed : (next : ℕ) → Node → (id : ℕ) → List Application
listed next (Apply f args w) id =
    record { applied = record { function = f; args = args; result = next }; term = id } ∷ []
listed next node id = []

-- an application of the goal, and the term of its input
pub record IsTaken (nodes : List Node) (goal : Term) (first : ℕ) (t : Term) (a : Application) : Type 0 where
  pub applied : IsApplied nodes goal first t a.applied
  pub there : a.term < length nodes
  pub term : term_at nodes a.term ≡ reduced (applications goal) first t

-- each of them, in order
abbrev pub AreTaken : List Node → (goal : Term) (first : ℕ) → List Application → Type 0
AreTaken nodes goal first taken = AllZip (IsTaken nodes goal first) (applications goal) taken
