use Rattle.p4_run.proofs.VisitLaws.{visit_of_member}
use Rattle.p4_run.proofs.laws.egress_is_a_visit.Goals as goal

pub returns : goal.returns
returns c = visit_of_member
