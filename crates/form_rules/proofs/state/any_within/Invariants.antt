use Rattle.std.proofs.Common.{◌≡◌, drop}
use Rattle.form_rules.specs.Steps.{any_within, holding_of}
use Rattle.form_rules.proofs.state.any_within.Given as goal

abbrev pub invariant-loop-place : goal.invariant-loop-place
invariant-loop-place l = any_within l.choice (holding_of l.state) (drop l.place-index l.places) ≡ any_within l.choice (holding_of l.state) l.places
