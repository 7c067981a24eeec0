use Rattle.obligation_examples.proofs.SegmentsT as law
use Rattle.obligation_examples.proofs.refined.segments_of_t.Goals as goal

pub returns : goal.returns
returns c = let t = c.runs_are_taken.ensures in record { one = law.one t; two = law.two t; three = law.three t; four = law.four t; five = law.five t; way = law.way }
