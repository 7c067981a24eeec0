use Rattle.verdicts.proofs.Failing.{fails, refutes}
use Rattle.verdicts.proofs.laws.failing_obligations_fail.Goals as goal

pub returns-clause-fails : goal.returns-clause-fails
returns-clause-fails c = fails

pub returns-clause-refutes : goal.returns-clause-refutes
returns-clause-refutes c = refutes c.failures_refute_blocks.ensures.contained c.failures_refute_blocks.ensures.bounded
