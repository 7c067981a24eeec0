use Rattle.std.proofs.Common.{◌≡◌, take}
use Rattle.net_bundle.proofs.net_form.widened.Given as goal

abbrev pub invariant-loop-number : goal.invariant-loop-number
invariant-loop-number l = l.list.items ≡ take l.number-index l.numbers
