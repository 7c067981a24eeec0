-- Cited by the clauses of all that follows bodies: what states read as, through an arena of terms.
use Rattle.std.specs.Prelude.{◌≡◌, ℕ, ◌-◌, ◌<◌, List, [], All, drop, length, map, slice_get, Option, Some, None, option_map}
use Rattle.cocoon_num.specs.Tree.{Expr}
use Rattle.cocoon_syntax.specs.TreeOf.{design_of}
use Rattle.bv_terms.specs.declared.node.Node.{Node}
use Rattle.bv_terms.specs.declared.node.Node.TheVariants.{Input}
use Rattle.bv_terms.specs.Arenas.{inputs_in, term_at}
use Rattle.expr_terms.specs.Variables.{AreThere, VariablesThere, terms_at, variables_of}
use Rattle.obligation_laws.specs.States as tree
use Rattle.obligation_laws.specs.States.{NewInput, TermWorld, term_world}
use Rattle.obligation_laws.specs.Following.{Followed, chosen_as, next_input}
use Rattle.obligation_laws.specs.Following as following
use Rattle.obligation_laws.specs.Leaves as leaves
use Rattle.symbolic_runs.specs.declared.states.Choice.{Choice}
use Rattle.symbolic_runs.specs.declared.states.Place.{Place}
use Rattle.symbolic_runs.specs.declared.states.State.{State}
use Rattle.symbolic_runs.specs.declared.world.World.{World}

-- ---- states

abbrev pub input_of : Choice → NewInput
input_of c = record { number = c.input; width = c.width }

abbrev pub place_of : List Node → Place → tree.Place
place_of nodes at = record { role = at.role.now; values = terms_at nodes at.values.items }

abbrev pub state_of : List Node → State → tree.State
state_of nodes s = record {
  vars = variables_of nodes s.variables.items;
  fields = terms_at nodes s.fields.items;
  cond = term_at nodes s.condition;
  choices = map input_of s.choices.items;
  way = s.way.items;
  sent = option_map (place_of nodes) s.sent;
}

abbrev pub states_of : List Node → List State → List tree.State
states_of nodes ss = map (state_of nodes) ss

-- ---- what the arena has

abbrev pub PlaceThere : List Node → Option Place → Type 0
PlaceThere nodes None = Unit {0}
PlaceThere nodes (Some at) = AreThere nodes at.values.items

-- it has the input of a choice, with this width
abbrev pub IsInput : List Node → Choice → Type 0
IsInput nodes c = (k : ℕ) × (slice_get nodes k ≡ Some (Input c.input c.width))

-- it has all terms of the state
pub record IsThere (nodes : List Node) (s : State) : Type 0 where
  pub variables : VariablesThere nodes s.variables.items
  pub fields : AreThere nodes s.fields.items
  pub condition : s.condition < length nodes
  pub choices : All (IsInput nodes) s.choices.items
  pub sent : PlaceThere nodes s.sent

-- ---- what calls make

-- the state reads as this one, and the arena has all of it
pub record Reads (nodes : List Node) (s : State) (t : tree.State) : Type 0 where
  pub there : IsThere nodes s
  pub is : state_of nodes s ≡ t

-- the states read as those that were followed, and the arena has inputs up to the next
pub record Follows (nodes : List Node) (states : List State) (followed : Followed) : Type 0 where
  pub there : All (IsThere nodes) states
  pub are : states_of nodes states ≡ followed.0
  pub next : inputs_in nodes ≡ followed.1

-- ---- what states are followed in

abbrev pub world_in : World → TermWorld
world_in w = term_world w.level (design_of w.checked.now)

-- from the place that a state has sent to: nothing comes of one that has not sent
abbrev pub from_place : TermWorld → tree.State → ℕ → Followed
from_place w s n = elim s.sent [ None ↦ ([], n) | Some at ↦ leaves.follow_body w at s n ]

-- the variable of a fork is chosen, and its condition is true
abbrev pub forked : TermWorld → (x : List ℕ) → (width : ℕ) → Expr → tree.State → ℕ → tree.State
forked w x width e s n = let chosen = chosen_as x (next_input n width) s in tree.where_true (following.term_at w chosen e) chosen

-- the values of a place, if there is one
abbrev pub values_at : Option Place → List ℕ
values_at None = []
values_at (Some at) = at.values.items

-- the first variables alone, so many
abbrev pub cut_to : ℕ → tree.State → tree.State
cut_to count s = record s { vars = drop (length s.vars - count) s.vars }
