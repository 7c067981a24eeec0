use Rattle.std.proofs.Common.{◌≡◌, take}
use Rattle.pattern_instances.specs.Found.{args_at}
use Rattle.pattern_instances.proofs.tuples.args_at.Given as goal

abbrev pub invariant-loop-place : goal.invariant-loop-place
invariant-loop-place l = l.tuple.items ≡ args_at l.args (take l.place-index l.places)
