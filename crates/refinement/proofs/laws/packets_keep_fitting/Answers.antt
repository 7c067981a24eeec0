use Rattle.refinement.proofs.Fitting.{reaches_fitting}
use Rattle.refinement.proofs.Together.{keeps_types}
use Rattle.refinement.proofs.laws.packets_keep_fitting.Goals as goal

pub returns : goal.returns
returns c d defs w l are level =
    reaches_fitting level d defs c.runs_are_taken.ensures (keeps_types c.runs_keep_types.ensures.by_definitions d defs w l are level)
