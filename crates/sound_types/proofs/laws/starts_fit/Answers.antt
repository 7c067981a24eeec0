use Rattle.sound_types.proofs.Entering.{entered_fits}
use Rattle.sound_types.proofs.Variables.{bind_value}
use Rattle.sound_types.proofs.laws.starts_fit.Goals as goal

pub returns : goal.returns
returns c = record { parameters = bind_value; packets = entered_fits }
