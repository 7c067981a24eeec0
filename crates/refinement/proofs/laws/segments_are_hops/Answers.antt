use Rattle.refinement.proofs.Hops.{segment_gives, segment_takes}
use Rattle.refinement.proofs.laws.segments_are_hops.Goals as goal

pub returns : goal.returns
returns c = record {
  computed = λ d above block defs. segment_takes c.runs_are_taken.ensures above d defs block;
  related = λ d above block defs. segment_gives c.runs_are_taken.ensures above d defs block;
}
