use Rattle.lowering.proofs.ChoicelessVisits as visits
use Rattle.lowering.proofs.bodies.ingress_ends.Goals as goal

pub returns : goal.returns
returns c r fill s p rows h port packet fits = visits.ingress_ends r fill s p rows h port packet fits
