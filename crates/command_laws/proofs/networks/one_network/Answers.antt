-- Each file reads as one thing.
use Rattle.command_laws.proofs.NetworkReads as reads
use Rattle.command_laws.proofs.networks.one_network.Goals as goal

pub returns : goal.returns
returns c = reads.one_network c.one_program.ensures
