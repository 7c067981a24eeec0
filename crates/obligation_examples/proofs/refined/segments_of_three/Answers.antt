use Rattle.obligation_examples.proofs.SegmentsThree as law
use Rattle.obligation_examples.proofs.refined.segments_of_three.Goals as goal

pub returns : goal.returns
returns c = let t = c.runs_are_taken.ensures in record { one = law.one t; top = law.top t; three = law.three t; middle = law.middle t; fails = law.not_met; nothing = law.none }
