use Rattle.sound_types.proofs.Declared.{assumption_typed}
use Rattle.sound_types.proofs.Together.{roles_are_typed}
use Rattle.sound_types.proofs.laws.declarations_are_typed.Goals as goal

pub returns : goal.returns
returns c = record { roles = roles_are_typed; assumptions = assumption_typed }
