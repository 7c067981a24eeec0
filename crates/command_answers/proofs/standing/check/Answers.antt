use Rattle.command_answers.proofs.standing.check.Goals as goal

pub returns-in-Err-clause-refused : goal.returns-in-Err-clause-refused
returns-in-Err-clause-refused c = (c.in-Err.fault, c.in-Err.ensures.fault, c.certificates_refusal.ensures.refusal)
