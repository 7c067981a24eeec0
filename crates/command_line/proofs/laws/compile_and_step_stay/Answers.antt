use Rattle.command_line.proofs.CommandsStay.{compile_and_step_stay}
use Rattle.command_line.proofs.laws.compile_and_step_stay.Goals as goal

pub returns : goal.returns
returns c = compile_and_step_stay
