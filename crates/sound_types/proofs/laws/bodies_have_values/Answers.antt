use Rattle.sound_types.proofs.Together as laws
use Rattle.sound_types.proofs.laws.bodies_have_values.Goals as goal

pub returns : goal.returns
returns c = laws.sound_bodies
