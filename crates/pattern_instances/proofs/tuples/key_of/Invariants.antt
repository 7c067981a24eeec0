use Rattle.std.proofs.Common.{◌≡◌, take}
use Rattle.pattern_instances.proofs.tuples.key_of.Given as goal

abbrev pub invariant-loop-id : goal.invariant-loop-id
invariant-loop-id l = l.key.items ≡ take l.id-index l.tuple
