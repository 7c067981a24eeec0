use Rattle.refinement.proofs.AllLevels.{one_or_more}
use Rattle.refinement.proofs.Hosts.{sink_stays}
use Rattle.refinement.proofs.Moving.{guard_same}
use Rattle.refinement.proofs.Roles.{unlisted_stays}
use Rattle.refinement.proofs.laws.levels_keep_roles.Goals as goal

pub returns : goal.returns
returns c = record {
  unlisted = λ d above block w at name r. unlisted_stays d w above block at name r;
  guards = λ d above block w at defs. guard_same d w above block at defs;
  sinks = sink_stays;
  bounds = λ d above block w. one_or_more d w above block;
}
