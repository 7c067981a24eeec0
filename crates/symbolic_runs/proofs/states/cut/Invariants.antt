use Rattle.std.proofs.Common.{◌≡◌, ◌++◌, All, List, map}
use Rattle.bv_terms.specs.declared.node.Node.{Node}
use Rattle.symbolic_runs.specs.Reading.{IsThere, cut_to, states_of}
use Rattle.symbolic_runs.proofs.states.cut.Given as goal

abbrev pub invariant-loop-state : goal.invariant-loop-state
invariant-loop-state l = record {
  read : (nodes : List Node) → states_of nodes l.back.items ++ map (cut_to l.count) (states_of nodes l.state-iterator.rest.items) ≡ map (cut_to l.count) (states_of nodes l.fn.states.items);
  there : (nodes : List Node) → All (IsThere nodes) l.fn.states.items → All (IsThere nodes) l.back.items × All (IsThere nodes) l.state-iterator.rest.items;
}
