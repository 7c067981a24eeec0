-- Cited by the clauses of `own_term`: the inputs of an arena, one by one.
use Rattle.std.specs.Prelude.{◌≡◌, ℕ, suc, ◌+◌, ◌<◌, List, [], ◌∷◌, length, Some, slice_get}
use Rattle.bv_terms.specs.Arenas.{KeepsTerms, inputs_in, term_at}
use Rattle.bv_terms.specs.TermTrees.{input}
use Rattle.bv_terms.specs.declared.node.Node.{Node}
use Rattle.bv_terms.specs.declared.node.Node.TheVariants.{Input}

-- the input of this number and width stands under this number
pub record IsInputAt (nodes : List Node) (id i w : ℕ) : Type 0 where
  pub there : id < length nodes
  pub node_ : slice_get nodes id ≡ Some (Input i w)
  pub term : term_at nodes id ≡ input i w

-- the inputs from this one on, of these widths, stand under these numbers
abbrev pub InputsAre : List Node → ℕ → (ids widths : List ℕ) → Type 0
InputsAre nodes i [] [] = Unit {0}
InputsAre nodes i (id ∷ ids) (w ∷ ws) = IsInputAt nodes id i w × InputsAre nodes (suc i) ids ws
InputsAre nodes i _ _ = ⊥

-- the arena has these inputs alone
pub record HasInputs (nodes : List Node) (ids widths : List ℕ) : Type 0 where
  pub are : InputsAre nodes 0 ids widths
  pub count : inputs_in nodes ≡ length widths

-- one input more, of this width
pub record IsNewInput (old new : List Node) (w id : ℕ) : Type 0 where
  pub at : IsInputAt new id (inputs_in old) w
  pub count : inputs_in new ≡ inputs_in old + 1
  pub kept : KeepsTerms old new

-- the arena has inputs of these widths alone
pub record HasInputsOf (widths : List ℕ) (nodes : List Node) : Type 0 where
  pub ids : List ℕ
  pub inputs : HasInputs nodes ids widths
