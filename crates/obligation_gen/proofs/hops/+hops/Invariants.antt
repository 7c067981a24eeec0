use Rattle.std.proofs.Common.{◌+◌, ◌*◌}
use Rattle.obligation_laws.specs.Leaves as laws
use Rattle.obligation_laws.specs.Leaves.{onward}
use Rattle.symbolic_runs.specs.Reading.{world_in}
use Rattle.obligation_gen.specs.Bodies.{new_in}
use Rattle.obligation_gen.proofs.Bodies.{Gone}
use Rattle.obligation_gen.proofs.hops.+hops.Given as goal

abbrev pub decreases-hop : goal.decreases-hop
decreases-hop l = 3 * l.bodies

abbrev pub decreases-from_way : goal.decreases-from_way
decreases-from_way l = 3 * l.bodies + 1

abbrev pub decreases-go_on : goal.decreases-go_on
decreases-go_on l = 3 * l.bodies + 2

abbrev pub invariant-go_on-loop-state : goal.invariant-go_on-loop-state
invariant-go_on-loop-state l =
    Gone l.hops (onward (new_in l.hops) (laws.hops (world_in l.hops.world) (new_in l.hops) l.bodies)) l.fn.terms l.terms
    l.fn.states.items l.state-iterator.rest.items l.leaves.items
