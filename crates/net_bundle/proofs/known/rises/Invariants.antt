use Rattle.std.proofs.Common.{◌≡◌, ◌∷◌, drop}
use Rattle.cocoon_num.specs.Lists.{ascend}
use Rattle.net_bundle.proofs.known.rises.Given as goal

abbrev pub invariant-loop-number : goal.invariant-loop-number
invariant-loop-number l = ascend (l.last ∷ drop l.number-index l.rest) ≡ ascend (l.fn.first ∷ l.rest)
