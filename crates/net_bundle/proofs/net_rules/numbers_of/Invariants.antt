use Rattle.std.proofs.Common.{◌≡◌, take, map}
use Rattle.p4_ir.specs.NetOf.{host_port_of}
use Rattle.p4_ir.specs.Wiring.{host_numbers}
use Rattle.net_bundle.proofs.net_rules.numbers_of.Given as goal

abbrev pub invariant-loop-host : goal.invariant-loop-host
invariant-loop-host l = l.numbers.items ≡ host_numbers (map host_port_of (take l.host-index l.hosts))
