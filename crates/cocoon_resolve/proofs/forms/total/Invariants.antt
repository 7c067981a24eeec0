use Rattle.std.proofs.Common.{◌≡◌, take}
use Rattle.cocoon_num.specs.Packets.{total}
use Rattle.cocoon_types.specs.Limits.{reported}
use Rattle.cocoon_resolve.proofs.forms.total.Given as goal

abbrev pub invariant-loop-number : goal.invariant-loop-number
invariant-loop-number l = l.sum ≡ reported (total (take l.number-index l.numbers))
