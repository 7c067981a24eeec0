use Rattle.bv_terms.proofs.Sights.{walk-seen}
use Rattle.bv_terms.proofs.walk_laws.a_walk_passes_over_what_it_saw.Goals as goal

pub returns : goal.returns
returns c = walk-seen
