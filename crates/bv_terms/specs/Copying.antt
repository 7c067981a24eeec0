-- Cited by private clauses: the copy of a node whose parts are copied.
use Rattle.std.specs.Prelude.{◌≡◌, ℕ, List, [], ◌∷◌, ◌++◌, Option, Some, slice_get}
use Rattle.bv_terms.specs.declared.node.Node.{Node}
use Rattle.bv_terms.specs.declared.node.Node.TheVariants.{Input}
use Rattle.bv_terms.specs.TermTrees.{IsWidth}
use Rattle.bv_terms.specs.Arenas.{CanFollow, node_width, width_at}
use Rattle.bv_terms.specs.Rebuilt.{with_parts}

abbrev pub input_of : Option Node → List ℕ
input_of (Some (Input i w)) = i ∷ []
input_of _ = []

-- the inputs among some terms, of which the largest number is the first
abbrev pub inputs_among : List Node → List ℕ → List ℕ
inputs_among nodes [] = []
inputs_among nodes (k ∷ ks) = inputs_among nodes ks ++ input_of (slice_get nodes k)

-- a node over the copies of its parts. An input has the next number
abbrev pub copied_node : (next : ℕ) → (ℕ → ℕ) → Node → Node
copied_node next name (Input i w) = Input next w
copied_node next name node = with_parts name node

-- the node has this width, and can be put in over the copies of its parts
abbrev pub CanCopy : List Node → (ℕ → ℕ) → Node → (width : ℕ) → Type 0
CanCopy nodes name (Input i v) w = IsWidth v
CanCopy nodes name node w =
    CanFollow nodes (with_parts name node) × (w ≡ node_width (width_at nodes) (with_parts name node))
