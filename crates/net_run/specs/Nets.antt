-- Cited by the clauses of `Net` and by those of runs of networks: the network of the definitions that it stands for.
use Rattle.p4_ir.specs.NetTree.{NetData}
use Rattle.net_run.specs.Switches.{net_with}
use Rattle.net_run.specs.declared.net.Net.{Net}

abbrev pub net_in : Net → NetData
net_in n = net_with n.ports n.switches.items n.links n.hosts
