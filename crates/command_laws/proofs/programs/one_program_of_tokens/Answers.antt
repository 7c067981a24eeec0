-- The tokens of a well-kinded program are those of one text.
use Rattle.command_laws.proofs.OneProgram as one
use Rattle.command_laws.proofs.programs.one_program_of_tokens.Goals as goal

pub returns : goal.returns
returns c = one.one_program_of_tokens (record {
  one_text = c.one_text.ensures;
  no_fault = c.program_has_no_fault.ensures;
  stands = c.program_stands.ensures;
  tokens = c.no_fault_tokens.ensures;
})
