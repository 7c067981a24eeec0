use Rattle.command_line.proofs.Ranges.{in_range}
use Rattle.command_line.proofs.laws.numbers_are_in_range.Goals as goal

pub returns : goal.returns
returns c = in_range
