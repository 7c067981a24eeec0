use Rattle.lowering.proofs.Served as served
use Rattle.lowering.proofs.visits.forks_are_served.Goals as goal

pub returns : goal.returns
returns c fill rows functions names groups b forks named_so = served.all_served fill rows functions names groups b forks named_so
