use Rattle.command_laws.proofs.Ending.{plainly}
use Rattle.command_laws.proofs.completeness.plain_commands_succeed.Goals as goal

pub returns : goal.returns
returns c = λ command call is cause sound plain. plainly command call (c.searches_end.ensures command call is cause sound) plain
