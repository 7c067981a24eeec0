use Rattle.std.proofs.Common.{◌≡◌, take}
use Rattle.role_meaning.proofs.going.widened.Given as goal

abbrev pub invariant-loop-number : goal.invariant-loop-number
invariant-loop-number l = l.widened.items ≡ take l.number-index l.numbers
