use Rattle.symbolic_runs.proofs.Changes.{sent_reads}
use Rattle.symbolic_runs.proofs.states.State.send.Goals as goal

pub returns : goal.returns
returns c = λ a t us r m. sent_reads a c.args.self.now (record { role = c.args.role; values = c.args.values }) t us r m
