use Rattle.std.proofs.Common.{◌≡◌, map, take}
use Rattle.form_rules.specs.Steps.{holding_of}
use Rattle.form_rules.proofs.states.copy_states.Given as goal

abbrev pub invariant-loop-state : goal.invariant-loop-state
invariant-loop-state l = map holding_of l.copies.items ≡ map holding_of (take l.state-index l.states)
