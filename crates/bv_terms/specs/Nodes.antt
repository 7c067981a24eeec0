-- Cited by private clauses: a node over parts that have choices over rows in them.
use Rattle.std.specs.Prelude.{◌≡◌, ℕ, List, map}
use Rattle.bv_terms.specs.declared.node.Node.{Node}
use Rattle.bv_terms.specs.declared.node.Node.TheVariants.{Input, Apply}
use Rattle.bv_terms.specs.TermTrees.{Term, input}
use Rattle.bv_terms.specs.Arenas.{args_of, made_of, node_width, width_at, CanFollow}
use Rattle.bv_terms.specs.WithRows.{Tables, table_of, looked_up}
use Rattle.bv_terms.specs.Fitting.{CanStand}
use Rattle.bv_terms.specs.Growth.{IsMade}

-- the term of a node whose parts are these terms: an application of a function with a table is looked up
abbrev pub node_with_rows : Tables → (ℕ → Term) → Node → Term
node_with_rows tables term (Apply f args w) = looked_up (table_of tables f) f (args_of term args) w
node_with_rows tables term node = made_of term node

-- the table of an applied function fits the widths of the arguments
abbrev pub FitsNode : Tables → (ℕ → ℕ) → Node → Type 0
FitsNode tables width (Apply f args w) = CanStand (table_of tables f) (map width args) w
FitsNode tables width node = Unit {0}

-- an input has this number already
abbrev pub IsOwn : List Node → Node → ℕ → Type 0
IsOwn nodes (Input i w) own = IsMade nodes (input i w) own
IsOwn nodes node own = Unit {0}

-- the term of the node can be made
pub record CanMake (tables : Tables) (nodes : List Node) (node : Node) (w own : ℕ) : Type 0 where
  pub follows : CanFollow nodes node
  pub width : w ≡ node_width (width_at nodes) node
  pub fits : FitsNode tables (width_at nodes) node
  pub own_ : IsOwn nodes node own
