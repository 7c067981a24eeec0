-- Cited by the clauses of `load` and of `Net`: the switch of the definitions that a loaded one is, and the network of some.
use Rattle.std.specs.Prelude.{ℕ, List, map}
use Rattle.p4_ir.specs.NetOf.{host_port_of, link_of}
use Rattle.p4_ir.specs.NetTree.{NetData, SwitchFiles}
use Rattle.p4_ir.specs.P4Tree.{Program, RowsFile}
use Rattle.p4_ir.specs.declared.network.HostPort.{HostPort}
use Rattle.p4_ir.specs.declared.network.Link.{Link}
use Rattle.p4_run.specs.Running.{program_in, rows_in}
use Rattle.net_run.specs.declared.switch.LoadedSwitch.{LoadedSwitch}

abbrev pub switch_with : ℕ → Program → RowsFile → SwitchFiles
switch_with number program rows = record { number = number; program = program; rows = rows }

abbrev pub switch_in : LoadedSwitch → SwitchFiles
switch_in s = switch_with s.number (program_in s.loaded) (rows_in s.loaded)

abbrev pub net_with : (ports : ℕ) → List LoadedSwitch → List Link → List HostPort → NetData
net_with ports switches links hosts =
    record { ports = ports; switches = map switch_in switches; links = map link_of links; hosts = map host_port_of hosts }
