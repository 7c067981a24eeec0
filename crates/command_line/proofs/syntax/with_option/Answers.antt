use Rattle.command_line.proofs.Matching.{still_local}
use Rattle.command_line.proofs.syntax.with_option.Goals as goal

pub returns-clause-local : goal.returns-clause-local
returns-clause-local c = still_local _ _ _ c.in_ok-arg.ensures.globals c.option_argument.ensures.local
