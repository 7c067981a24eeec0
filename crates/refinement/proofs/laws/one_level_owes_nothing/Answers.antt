use Rattle.refinement.proofs.AllLevels.{no_blocks, none_to_meet}
use Rattle.refinement.proofs.laws.one_level_owes_nothing.Goals as goal

pub returns : goal.returns
returns c = record { refines = no_blocks; meets = none_to_meet }
