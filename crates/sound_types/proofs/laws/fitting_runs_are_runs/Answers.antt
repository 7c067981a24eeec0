use Rattle.sound_types.proofs.Together as laws
use Rattle.sound_types.proofs.laws.fitting_runs_are_runs.Goals as goal

pub returns : goal.returns
returns c = laws.fitting_same
