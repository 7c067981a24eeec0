-- Cited by the private clauses of `bodies`: the body of the role that a way has sent to.
use Rattle.std.specs.Prelude.{◌≡◌, ℕ, List, [], Option, Some, option_map}
use Rattle.cocoon_num.specs.Tree.{Block, Role}
use Rattle.cocoon_syntax.specs.TreeOf.{design_of}
use Rattle.cocoon_types.specs.Design.{role_at}
use Rattle.bv_terms.specs.declared.node.Node.{Node}
use Rattle.obligation_laws.specs.States as tree
use Rattle.symbolic_runs.specs.declared.states.Place.{Place}
use Rattle.symbolic_runs.specs.declared.world.World.{World}
use Rattle.symbolic_runs.specs.Reading.{from_place, place_of, world_in}

-- the place is one of this role of the level, which has this body
pub record IsBodyAt (w : World) (sent : Option Place) (r : Role) (b : Block) : Type 0 where
  pub place : Place
  pub is : sent ≡ Some place
  pub declared : role_at w.level (design_of w.checked.now) place.role.now ≡ Some r
  pub body : r.body ≡ Some b

-- nothing comes of a state that has sent there
abbrev pub NoBodyAt : World → Option Place → Type 0
NoBodyAt w sent = (nodes : List Node) (t : tree.State) (n : ℕ) → t.sent ≡ option_map (place_of nodes) sent → from_place (world_in w) t n ≡ ([], n)
