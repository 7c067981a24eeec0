use Rattle.command_line.proofs.CommandsStay.{compile_stays}
use Rattle.command_line.proofs.laws.compile_stays.Goals as goal

pub returns : goal.returns
returns c = compile_stays
