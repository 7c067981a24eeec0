-- A text has one answer.
use Rattle.command_laws.proofs.OneProgram as one
use Rattle.command_laws.proofs.programs.one_program.Goals as goal

pub returns : goal.returns
returns c = one.one_program c.one_answer.ensures
