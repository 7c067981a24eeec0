use Rattle.command_line.proofs.CommandsStay.{commands_stay}
use Rattle.command_line.proofs.laws.commands_stay.Goals as goal

pub returns : goal.returns
returns c = commands_stay
