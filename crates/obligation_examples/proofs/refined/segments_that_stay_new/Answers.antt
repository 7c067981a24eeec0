use Rattle.std.proofs.Common.{refl}
use Rattle.obligation_examples.proofs.SegmentsT as law
use Rattle.obligation_examples.proofs.refined.segments_that_stay_new.Goals as goal

pub returns : goal.returns
returns c = let t = c.runs_are_taken.ensures in record { segment = law.loop t; allowed = refl; new = refl; fails = law.not_met }
