use Rattle.refinement.proofs.Together.{down}
use Rattle.refinement.proofs.laws.one_level_down.Goals as goal

pub returns : goal.returns
returns c = down c.runs_are_taken.ensures c.declarations_are_typed.ensures.roles c.runs_keep_types.ensures.by_definitions
