use Rattle.std.proofs.Common.{◌≡◌, drop, option_map}
use Rattle.symbolic_runs.specs.Places.{later}
use Rattle.obligation_gen.specs.Sent.{position_of}
use Rattle.obligation_gen.proofs.standing.position.Given as goal

abbrev pub invariant-loop-place : goal.invariant-loop-place
invariant-loop-place l = position_of l.term l.among ≡ option_map (later l.place) (position_of l.term (drop l.place l.among))
