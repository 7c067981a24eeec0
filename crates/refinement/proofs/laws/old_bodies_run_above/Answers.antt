use Rattle.refinement.proofs.Moving.{keeps}
use Rattle.refinement.proofs.laws.old_bodies_run_above.Goals as goal

pub returns : goal.returns
returns c d above block w l at defs = keeps d w above block at defs (c.declarations_are_typed.ensures.roles d w l above)
