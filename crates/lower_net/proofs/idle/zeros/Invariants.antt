use Rattle.std.proofs.Common.{◌≡◌, take}
use Rattle.lower_net.specs.Idle.{zeros}
use Rattle.lower_net.proofs.idle.zeros.Given as goal

abbrev pub invariant-loop : goal.invariant-loop
invariant-loop l = l.numbers.items ≡ zeros (take l.index l.widths)
