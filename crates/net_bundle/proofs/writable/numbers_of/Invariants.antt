use Rattle.std.proofs.Common.{◌≡◌, map, take}
use Rattle.p4_ir.specs.NetFits.{switch_numbers}
use Rattle.p4_ir.specs.NetOf.{switch_of}
use Rattle.net_bundle.proofs.writable.numbers_of.Given as goal

abbrev pub invariant-loop-switch : goal.invariant-loop-switch
invariant-loop-switch l = l.numbers.items ≡ switch_numbers (map switch_of (take l.switch-index l.switches))
