use Rattle.p4_run.proofs.VisitLaws.{visit_alone}
use Rattle.p4_run.proofs.laws.ingress_is_a_visit.Goals as goal

pub returns : goal.returns
returns c = visit_alone
