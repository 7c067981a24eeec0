-- Each visit has one end.
use Rattle.command_laws.proofs.DeliveryNetwork as network
use Rattle.command_laws.proofs.deliveries.one_delivery_of_a_network.Goals as goal

pub returns : goal.returns
returns c = network.one_delivery
