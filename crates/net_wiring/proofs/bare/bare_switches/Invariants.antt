use Rattle.std.proofs.Common.{◌≡◌, map, take}
use Rattle.p4_ir.specs.NetOf.{switch_of}
use Rattle.net_wiring.specs.Bare.{bare_switch}
use Rattle.net_wiring.proofs.bare.bare_switches.Given as goal

abbrev pub invariant-loop-number : goal.invariant-loop-number
invariant-loop-number l = map switch_of l.switches.items ≡ map bare_switch (take l.number-index l.numbers)
