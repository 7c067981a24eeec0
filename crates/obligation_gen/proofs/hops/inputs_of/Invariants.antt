use Rattle.std.proofs.Common.{◌≡◌, map, take}
use Rattle.symbolic_runs.specs.declared.states.Choice.{Choice}
use Rattle.obligation_gen.proofs.hops.inputs_of.Given as goal

abbrev pub invariant-loop-choice : goal.invariant-loop-choice
invariant-loop-choice l = l.inputs.items ≡ map (λ (c : Choice). c.input) (take l.choice-index l.choices)
