-- A block's run has one end, so the chain of runs from the entry has one.
use Rattle.command_laws.proofs.DeliveryDesign as design
use Rattle.command_laws.proofs.deliveries.one_delivery_of_a_design.Goals as goal

pub returns : goal.returns
returns c = design.one_delivery c.one_end.ensures
