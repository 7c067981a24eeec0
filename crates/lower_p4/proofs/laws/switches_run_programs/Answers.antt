use Rattle.lower_p4.proofs.Grounded.{run_programs}
use Rattle.lower_p4.proofs.laws.switches_run_programs.Goals as goal

pub returns : goal.returns
returns c = run_programs
