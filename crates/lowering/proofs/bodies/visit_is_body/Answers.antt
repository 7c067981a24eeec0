use Rattle.lowering.proofs.ChoicelessVisits as visits
use Rattle.lowering.proofs.bodies.visit_is_body.Goals as goal

pub returns : goal.returns
returns c r fill s p rows h tag port bytes fits = visits.visit_shows r fill s p rows h tag port bytes fits
