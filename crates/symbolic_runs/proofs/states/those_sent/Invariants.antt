use Rattle.std.proofs.Common.{◌≡◌, ◌++◌, All, List}
use Rattle.std.specs.Prelude.{filter}
use Rattle.bv_terms.specs.declared.node.Node.{Node}
use Rattle.obligation_laws.specs.Following.{has_sent}
use Rattle.symbolic_runs.specs.Reading.{IsThere, states_of}
use Rattle.symbolic_runs.proofs.states.those_sent.Given as goal

abbrev pub invariant-loop-state : goal.invariant-loop-state
invariant-loop-state l = record {
  read : (nodes : List Node) → states_of nodes l.sent.items ++ filter has_sent (states_of nodes l.state-iterator.rest.items) ≡ filter has_sent (states_of nodes l.fn.states.items);
  there : (nodes : List Node) → All (IsThere nodes) l.fn.states.items → All (IsThere nodes) l.sent.items × All (IsThere nodes) l.state-iterator.rest.items;
}
