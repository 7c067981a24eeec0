-- All of it is computed.
use Rattle.command_laws.proofs.ExampleBundle.{c_written}
use Rattle.command_laws.proofs.ExampleNetwork.{c_network, c_goes, c_goes_otherwise, c_stops}
use Rattle.command_laws.proofs.ExampleTables.{c_bound, c_is_network, c_places}
use Rattle.command_laws.proofs.example.example_network.Goals as goal

pub returns-clause-lowered : goal.returns-clause-lowered
returns-clause-lowered c = (c_places, c_bound, c_is_network)

pub returns-clause-written : goal.returns-clause-written
returns-clause-written c = c_written

pub returns-clause-network : goal.returns-clause-network
returns-clause-network c = c_network

pub returns-clause-tagged : goal.returns-clause-tagged
returns-clause-tagged c = c_goes

pub returns-clause-untagged : goal.returns-clause-untagged
returns-clause-untagged c = c_goes_otherwise

pub returns-clause-too_short : goal.returns-clause-too_short
returns-clause-too_short c = c_stops
