use Rattle.cocoon_types.specs.Tables.{defs_of}
use Rattle.lowering_correct.proofs.whole.networks_are_exact.Goals as goal

pub returns : goal.returns
returns c d es places net tables defs stands n =
    c.networks_deliver.ensures d (defs_of d es) places net tables stands n (c.visits_are_followed.ensures d es places tables defs stands n.parts n.parts_are)
