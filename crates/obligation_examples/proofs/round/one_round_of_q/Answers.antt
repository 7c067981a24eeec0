use Rattle.obligation_examples.proofs.RoundOfQ.{one-round}
use Rattle.obligation_examples.proofs.round.one_round_of_q.Goals as goal

pub returns : goal.returns
returns c = one-round
