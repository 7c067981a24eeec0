use Rattle.command_line.proofs.CommandsStay.{others_stay}
use Rattle.command_line.proofs.laws.others_stay.Goals as goal

pub returns : goal.returns
returns c = others_stay
