use Rattle.std.proofs.Common.{◌≡◌, length}
use Rattle.refinement.specs.Trails.{number_in}
use Rattle.role_meaning.proofs.tries.number_in.Given as goal

abbrev pub invariant-loop-value : goal.invariant-loop-value
invariant-loop-value l = number_in l.choice l.values l.numbers ≡ number_in l.choice l.fn.values l.fn.numbers

abbrev pub decreases-loop-value : goal.decreases-loop-value
decreases-loop-value l = length l.values
