-- The networks of the definitions that those of the code stand for whose switches have one program and the same rows. The clauses of
-- `lower` and of `write_bundle` cite it, and those of command_answers.
use Rattle.std.specs.Prelude.{ℕ, List, map}
use Rattle.p4_ir.specs.NetOf.{host_port_of, link_of, rows_of}
use Rattle.p4_ir.specs.NetTree.{NetData, SwitchFiles}
use Rattle.p4_ir.specs.P4Tree.{Program}
use Rattle.p4_ir.specs.Program.{program_of}
use Rattle.shared_net.specs.Merging.{merged}
use Rattle.shared_net.specs.declared.network.SharedNet.{SharedNet}
use Rattle.shared_net.specs.declared.network.SharedSwitches.{SharedSwitches}
use Rattle.shared_net.specs.declared.program.SwitchProgram.{SwitchProgram}

-- the program of a switch
abbrev pub switch_program : SwitchProgram → Program
switch_program sp = merged sp.number (program_of sp.program.now) (program_of sp.other.now)

-- the switch of this number
abbrev pub shared_switch : SharedSwitches → ℕ → SwitchFiles
shared_switch ss s = record { number = s; program = merged s (program_of ss.program) (program_of ss.other); rows = rows_of ss.rows }

abbrev pub switches_of : SharedSwitches → List SwitchFiles
switches_of ss = map (shared_switch ss) ss.numbers

-- the network
abbrev pub shared_of : SharedNet → NetData
shared_of n = record { ports = n.ports; switches = switches_of n.switches; links = map link_of n.links; hosts = map host_port_of n.hosts }
