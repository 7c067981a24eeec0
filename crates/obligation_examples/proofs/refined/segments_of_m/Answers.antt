use Rattle.std.proofs.Common.{refl}
use Rattle.obligation_examples.proofs.SegmentsM as law
use Rattle.obligation_examples.proofs.refined.segments_of_m.Goals as goal

pub returns : goal.returns
returns c = let t = c.runs_are_taken.ensures in record { one = law.one t; two = law.two t; three = law.three t; new = refl; old = refl; above = law.above t }
