use Rattle.std.proofs.Common.{◌≡◌, drop}
use Rattle.form_rules.specs.Steps.{hides_in, some_holds}
use Rattle.form_rules.proofs.states.any_hides.Given as goal

abbrev pub invariant-loop-state : goal.invariant-loop-state
invariant-loop-state l = some_holds (hides_in l.choice l.sent) (drop l.state-index l.states) ≡ some_holds (hides_in l.choice l.sent) l.states
