use Rattle.std.proofs.Common.{◌≡◌, map}
use Rattle.flat_goals.proofs.flattening.applied_of.Given as goal

abbrev pub invariant-loop-application : goal.invariant-loop-application
invariant-loop-application l = l.applied.items ≡ map (λ x. x.applied) l.yielded
